-- Workers at their places, and what work leaves of them.
use Rattle.std.proofs.Common.{◌≡◌, ℕ, zero, suc, ◌+◌, ◌<◌, get_or, List, [], ◌∷◌, ◌++◌, length, map, reverse, refl, sym, ap, ◌∙◌, subst, append_assoc, arith}
use Rattle.std.specs.List.{AllZip}
use Rattle.std.proofs.lemmas.List.{append-nil, length-append, length-replicate, map-append, replicate_more, reverse-append, same_from_push}
use Rattle.yp_worker.specs.inside.Receptions.{Passed}
use Rattle.yp_server.specs.declared.datagrams.DatagramWorker.{DatagramWorker}
use Rattle.yp_server.specs.declared.workers.ServerWorker.{ServerWorker}
use Rattle.yp_server.specs.declared.workers.ServerWorker.TheVariants.{Connections, Datagrams}
use Rattle.yp_server.specs.inside.Serving.{before_work, after_work}
use Rattle.yp_server.specs.inside.Workers.{Works, AllWork, connections_of, workers_of, IsManned, mails_in, held_in}

-- what holds at each place holds of both lists
pub zipped : {X : Type 0} (R : X → X → Type 0) (old new : List X) → length new ≡ length old
    → ((i : ℕ) (d : X) → i < length old → R (get_or old i d) (get_or new i d)) → AllZip R old new
zipped R [] [] len at = tt
zipped R [] (y ∷ ys) len at = absurd (omega (arith, len))
zipped R (x ∷ xs) [] len at = absurd (omega (arith, len))
zipped R (x ∷ xs) (y ∷ ys) len at = (at 0 x (omega arith), zipped R xs ys (omega (arith, len)) (λ i d low. at (suc i) d (omega (arith, low))))

module _ {J E H G I R M F N : Type 0} where
  -- one worker of connections more
  pub one_connection : (count : ℕ) (held : Passed) → connections_of {J = J} {E = E} {H = H} {G = G} {I = I} {R = R} {M = M} {F = F} {N = N} (count + 1) held ≡ connections_of count held ++ Connections held ∷ []
  one_connection count held = sym (replicate_more count (Connections held))

  pub one_other : (datagram_workers : List (DatagramWorker I J H F R)) (others : ℕ) (held : Passed)
      → workers_of {J = J} {E = E} {H = H} {G = G} {I = I} {R = R} {M = M} {F = F} {N = N} datagram_workers (others + 1) held ≡ workers_of datagram_workers others held ++ Connections held ∷ []
  one_other datagram_workers others held =
      ap (λ (l : List (ServerWorker J E H F G I R M F N)). map (λ m. Datagrams m) datagram_workers ++ l) (one_connection others held)
      ∙ sym (append_assoc (map (λ m. Datagrams m) datagram_workers) (connections_of others held) (Connections held ∷ []))

  -- one worker of datagrams more
  pub one_mail : (datagram_workers : List (DatagramWorker I J H F R)) (datagram_worker : DatagramWorker I J H F R) (held : Passed)
      → workers_of {J = J} {E = E} {H = H} {G = G} {I = I} {R = R} {M = M} {F = F} {N = N} (datagram_workers ++ datagram_worker ∷ []) 0 held ≡ workers_of datagram_workers 0 held ++ Datagrams datagram_worker ∷ []
  one_mail datagram_workers datagram_worker held =
      append-nil (map (λ m. Datagrams m) (datagram_workers ++ datagram_worker ∷ []))
      ∙ map-append (λ m. Datagrams m) datagram_workers (datagram_worker ∷ [])
      ∙ ap (λ (l : List (ServerWorker J E H F G I R M F N)). l ++ Datagrams datagram_worker ∷ []) (sym (append-nil (map (λ m. Datagrams m) datagram_workers)))

  -- behind workers of datagrams alone came those of connections
  pub others_behind : (datagram_workers : List (DatagramWorker I J H F R)) (others : ℕ) (held : Passed) (old new : List (ServerWorker J E H F G I R M F N))
      → old ≡ workers_of datagram_workers 0 held → new ≡ old ++ connections_of others held → new ≡ workers_of datagram_workers others held
  others_behind datagram_workers others held old new was is =
      is ∙ ap (λ (l : List (ServerWorker J E H F G I R M F N)). l ++ connections_of others held) (was ∙ append-nil (map (λ m. Datagrams m) datagram_workers))

  -- so many more are there
  pub connections_more : (others : ℕ) (held : Passed) (old new : List (ServerWorker J E H F G I R M F N))
      → new ≡ old ++ connections_of others held → length new ≡ length old + others
  connections_more others held old new is =
      let more : List (ServerWorker J E H F G I R M F N) = connections_of others held in
      let long = ap length is ∙ length-append old more in
      let one : ServerWorker J E H F G I R M F N = Connections held in
      let count = length-replicate others one in
      omega (arith, long, count)

  -- the last of workers is one of connections
  pub last_connection : (datagram_workers : List (DatagramWorker I J H F R)) (others : ℕ) (held : Passed) (all front : List (ServerWorker J E H F G I R M F N))
      (last : ServerWorker J E H F G I R M F N) → all ≡ workers_of datagram_workers (others + 1) held → all ≡ front ++ last ∷ []
      → (front ≡ workers_of datagram_workers others held) × (last ≡ Connections held)
  last_connection datagram_workers others held all front last was is =
      same_from_push front (workers_of datagram_workers others held) last (Connections held) (sym is ∙ was ∙ one_other datagram_workers others held)

  abbrev held_by : Passed → ServerWorker J E H F G I R M F N → Passed
  held_by d (Connections held) = held
  held_by d (Datagrams m) = d

  pub same_held : (one other : Passed) (server_worker : ServerWorker J E H F G I R M F N) → server_worker ≡ Connections one
      → server_worker ≡ Connections other → one ≡ other
  same_held one other server_worker e f = ap (held_by one) (sym e ∙ f)

  -- ---- who is among workers

  pub mails_more : (front : List (ServerWorker J E H F G I R M F N)) (last : ServerWorker J E H F G I R M F N) → mails_in (front ++ last ∷ []) ≡ mails_in front ++ mails_in (last ∷ [])
  mails_more [] (Connections held) = refl
  mails_more [] (Datagrams m) = refl
  mails_more (Connections held ∷ front) last = mails_more front last
  mails_more (Datagrams m ∷ front) last = ap (λ (l : List (DatagramWorker I J H F R)). m ∷ l) (mails_more front last)

  turned_mails : (last : ServerWorker J E H F G I R M F N) → reverse (mails_in (last ∷ [])) ≡ mails_in (last ∷ [])
  turned_mails (Connections held) = refl
  turned_mails (Datagrams m) = refl

  -- the workers of datagrams that were gathered, the last one first, behind those that are still among workers
  pub gathered : (all front : List (ServerWorker J E H F G I R M F N)) (last : ServerWorker J E H F G I R M F N) → all ≡ front ++ last ∷ []
      → (old new whole : List (DatagramWorker I J H F R)) → new ≡ old ++ mails_in (last ∷ []) → mails_in all ++ reverse old ≡ whole
      → mails_in front ++ reverse new ≡ whole
  gathered all front last is old new whole is_new before =
      ap (λ (l : List (DatagramWorker I J H F R)). mails_in front ++ l) (ap reverse is_new ∙ reverse-append old (mails_in (last ∷ []))
      ∙ ap (λ (l : List (DatagramWorker I J H F R)). l ++ reverse old) (turned_mails last))
      ∙ sym (append_assoc (mails_in front) (mails_in (last ∷ [])) (reverse old))
      ∙ ap (λ (l : List (DatagramWorker I J H F R)). l ++ reverse old) (sym (mails_more front last))
      ∙ ap (λ (l : List (ServerWorker J E H F G I R M F N)). mails_in l ++ reverse old) (sym is)
      ∙ before

  pub held_more : (front : List (ServerWorker J E H F G I R M F N)) (last : ServerWorker J E H F G I R M F N)
      → ((held_in (front ++ last ∷ [])).parts ≡ (held_in front).parts + (held_in (last ∷ [])).parts)
      × ((held_in (front ++ last ∷ [])).out ≡ (held_in front).out + (held_in (last ∷ [])).out)
      × ((held_in (front ++ last ∷ [])).ended ≡ (held_in front).ended + (held_in (last ∷ [])).ended)
  held_more [] last = (omega arith, omega arith, omega arith)
  held_more (Connections held ∷ front) last =
      let more = held_more front last in
      let a = more.0 in
      let b = more.1 in
      let c = more.2 in
      (omega (arith, a), omega (arith, b), omega (arith, c))
  held_more (Datagrams m ∷ front) last = held_more front last

  mails_none : (others : ℕ) (held : Passed) (all : List (ServerWorker J E H F G I R M F N)) → all ≡ connections_of others held → mails_in all ≡ []
  mails_none zero held all is = ap mails_in is
  mails_none (suc n) held all is = ap mails_in is ∙ mails_none n held (connections_of n held) refl

  pub mails_of : (datagram_workers : List (DatagramWorker I J H F R)) (others : ℕ) (held : Passed) (all : List (ServerWorker J E H F G I R M F N))
      → all ≡ workers_of datagram_workers others held → mails_in all ≡ datagram_workers
  mails_of [] others held all is = mails_none others held all is
  mails_of (m ∷ ms) others held all is =
      ap mails_in is ∙ ap (λ (l : List (DatagramWorker I J H F R)). m ∷ l) (mails_of ms others held (workers_of ms others held) refl)

  -- so many hold this together, once they have ended
  held_none : (others : ℕ) (all : List (ServerWorker J E H F G I R M F N)) → all ≡ connections_of others after_work
      → ((held_in all).parts ≡ others) × ((held_in all).out ≡ 0) × ((held_in all).ended ≡ others)
  held_none zero all is = (
    ap (λ (l : List (ServerWorker J E H F G I R M F N)). (held_in l).parts) is,
    ap (λ (l : List (ServerWorker J E H F G I R M F N)). (held_in l).out) is,
    ap (λ (l : List (ServerWorker J E H F G I R M F N)). (held_in l).ended) is,
  )
  held_none (suc n) all is =
      let more = held_none n (connections_of n after_work) refl in
      let a = more.0 in
      let b = more.1 in
      let c = more.2 in
      let x = ap (λ (l : List (ServerWorker J E H F G I R M F N)). (held_in l).parts) is in
      let y = ap (λ (l : List (ServerWorker J E H F G I R M F N)). (held_in l).out) is in
      let z = ap (λ (l : List (ServerWorker J E H F G I R M F N)). (held_in l).ended) is in
      (omega (arith, a, x), omega (arith, b, y), omega (arith, c, z))

  pub held_of : (datagram_workers : List (DatagramWorker I J H F R)) (others : ℕ) (all : List (ServerWorker J E H F G I R M F N))
      → all ≡ workers_of datagram_workers others after_work
      → ((held_in all).parts ≡ others) × ((held_in all).out ≡ 0) × ((held_in all).ended ≡ others)
  held_of [] others all is = held_none others all is
  held_of (m ∷ ms) others all is =
      let more = held_of ms others (workers_of ms others after_work) refl in (
        ap (λ (l : List (ServerWorker J E H F G I R M F N)). (held_in l).parts) is ∙ more.0,
        ap (λ (l : List (ServerWorker J E H F G I R M F N)). (held_in l).out) is ∙ more.1,
        ap (λ (l : List (ServerWorker J E H F G I R M F N)). (held_in l).ended) is ∙ more.2,
      )

  -- ---- what work leaves

  module _ (mails : DatagramWorker I J H F R → DatagramWorker I J H F R → Type 0) where
    connections_worked : (count : ℕ) (new : List (ServerWorker J E H F G I R M F N)) → AllZip (Works mails) (connections_of count before_work) new → new ≡ connections_of count after_work
    connections_worked zero [] zip = refl
    connections_worked zero (y ∷ ys) zip = absurd zip
    connections_worked (suc n) [] zip = absurd zip
    connections_worked (suc n) (Connections held ∷ ys) zip =
        ap (λ (h : Passed). Connections h ∷ ys) zip.0 ∙ ap (λ (l : List (ServerWorker J E H F G I R M F N)). Connections after_work ∷ l) (connections_worked n ys zip.1)
    connections_worked (suc n) (Datagrams m ∷ ys) zip = absurd zip.0

    all_worked : (datagram_workers : List (DatagramWorker I J H F R)) (others : ℕ) (new : List (ServerWorker J E H F G I R M F N)) → AllZip (Works mails) (workers_of datagram_workers others before_work) new
        → (ended : List (DatagramWorker I J H F R)) × AllZip mails datagram_workers ended × (new ≡ workers_of ended others after_work)
    all_worked [] others new zip = ([], tt, connections_worked others new zip)
    all_worked (m ∷ ms) others [] zip = absurd zip
    all_worked (m ∷ ms) others (Connections held ∷ ys) zip = absurd zip.0
    all_worked (m ∷ ms) others (Datagrams last ∷ ys) zip =
        let rest = all_worked ms others ys zip.1 in
        (last ∷ rest.0, (zip.0, rest.1), ap (λ (l : List (ServerWorker J E H F G I R M F N)). Datagrams last ∷ l) rest.2)

    -- all have ended, and the workers of datagrams have made this of them
    pub worked : (datagram_workers : List (DatagramWorker I J H F R)) (others : ℕ) (old new : List (ServerWorker J E H F G I R M F N)) → old ≡ workers_of datagram_workers others before_work
        → length new ≡ length old → AllWork (Works mails) old new
        → (ended : List (DatagramWorker I J H F R)) × AllZip mails datagram_workers ended × (new ≡ workers_of ended others after_work)
    worked datagram_workers others old new was len works =
        all_worked datagram_workers others new
        (subst (λ (l : List (ServerWorker J E H F G I R M F N)). AllZip (Works mails) l new) was (zipped (Works mails) old new len works))

  -- so many workers of connections, where there is one
  pub manned : (datagram_workers : List (DatagramWorker I J H F R)) (held : Passed) (count parts : ℕ) (all : List (ServerWorker J E H F G I R M F N))
      → 0 < count → parts ≡ count + 2 → all ≡ workers_of datagram_workers count held → IsManned datagram_workers held parts all
  manned datagram_workers held zero parts all some ledger is = absurd (omega (arith, some))
  manned datagram_workers held (suc n) parts all some ledger is = record {
    others = n;
    parts_are = omega (arith, ledger);
    workers_are =
        let more : suc n ≡ n + 1 = omega arith in
        is ∙ ap (λ (count : ℕ). workers_of datagram_workers count held) more;
  }
