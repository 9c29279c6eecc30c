-- Rows that are read and pushed one after another are those that the reply says.
use Rattle.std.proofs.Common.{◌≡◌, ℕ, zero, suc, ◌+◌, ◌-◌, ◌<◌, ◌≤◌, Bool, true, ltb, List, [], ◌∷◌, ◌++◌, length}
use Rattle.std.proofs.Common.{Option, Some, None, Result, Ok, Err, refl, sym, ap, ◌∙◌, subst, append_assoc, add-one}
use Rattle.std.proofs.Common.{arith}
use Rattle.std.specs.Option.{option_map_or}
use Rattle.std.proofs.lemmas.Bool.{lt-ltb}
use Rattle.std.proofs.lemmas.List.{length-append}
use Rattle.std.proofs.lemmas.List.Sums.{fold-append}
use Rattle.yp_xdr.specs.Reading.{Remaining, bool_at, word_at}
use Rattle.yp_version.specs.declared.builder.VersionFault.{VersionFault}
use Rattle.yp_version.specs.Rows.{Row}
use Rattle.yp_version.specs.Drafts.{Draft, refused, with_row, with_rows, refused_from}
use Rattle.yp_client.specs.declared.fault.ClientFault.{ClientFault}
use Rattle.yp_client.specs.declared.fault.ClientFault.TheVariants.{Yp, Denied, BadReply, BadXid, Torn, TooLong}
use Rattle.yp_client.specs.declared.fault.ClientFault.TheVariants.{ReadFault, WriteFault, Spent, Rows, NoMemory}
use Rattle.yp_client.specs.declared.all.AllReply.{AllReply}
use Rattle.yp_rpc.specs.Pieces.{ReaderState}
use Rattle.yp_client.specs.Limits.{all_max}
use Rattle.yp_client.specs.All.{AllSaid, ItemRead, all_item_at, by_refusal, by_item, filled, IsSaid}
use Rattle.yp_client.specs.inside.All.{Grows}
use Rattle.yp_client.specs.inside.Windows.{waiting, ahead, RecordProgress, progress, GivesMore, IsUnderway, MayCome}
use Rattle.yp_client.specs.inside.Windows.{StaysWhole}
use Rattle.yp_client.specs.inside.Windows.{TakesMore, IsRowRefusal, filling, Advances, answered, PushesRows}
use Rattle.yp_client.proofs.Waiting.{gives_nothing, gives_then, underway_within, underway_more, underway_same}

-- ---- builders

pub grows_nothing : (draft : Draft) → Grows draft draft
grows_nothing draft = ([], refl, refl)

-- that no row is refused doesn't rest on their numbers
none_at_first : (at at' : ℕ) (cause : Option VersionFault) (rest rest' : Option (ℕ × VersionFault))
    → (rest ≡ None → rest' ≡ None)
    → option_map_or (λ fault. Some (at, fault)) cause rest ≡ None
    → option_map_or (λ fault. Some (at', fault)) cause rest' ≡ None
none_at_first at at' None rest rest' h none = h none
none_at_first at at' (Some fault) rest rest' h none = absurd cc

none_at : (at at' : ℕ) (draft : Draft) (rows : List Row) → refused_from at draft rows ≡ None
    → refused_from at' draft rows ≡ None
none_at at at' draft [] none = refl
none_at at at' draft (row ∷ rows) none =
    none_at_first at at' (refused draft row) _ _ (none_at (at + 1) (at' + 1) (with_row draft row) rows) none

none_behind : (at at' : ℕ) (draft : Draft) (rows others : List Row) → refused_from at draft rows ≡ None
    → refused_from at' (with_rows draft rows) others ≡ None → refused_from at draft (rows ++ others) ≡ None
none_behind at at' draft [] others none none' = none_at at' at draft others none'
none_behind at at' draft (row ∷ rows) others none none' =
    none_at_first at at (refused draft row) (refused_from (at + 1) (with_row draft row) rows)
    (refused_from (at + 1) (with_row draft row) (rows ++ others))
    (λ first. none_behind (at + 1) at' (with_row draft row) rows others first none') none

pub grows_then : (before mid after : Draft) → Grows before mid → Grows mid after → Grows before after
grows_then before mid after one other = (
  one.0 ++ other.0,
  other.1 ∙ ap (λ (d : Draft). with_rows d other.0) one.1 ∙ sym (fold-append with_row before one.0 other.0),
  none_behind 0 0 before one.0 other.0 one.2 (subst (λ (d : Draft). refused_from 0 d other.0 ≡ None) one.1 other.2),
)

pub grows_by : (before after : Draft) (row : Row) → refused before row ≡ None → after ≡ with_row before row
    → Grows before after
grows_by before after row fits is = (row ∷ [], is, rw fits refl)

-- ---- one item

-- a refusal that is said
pub said_err : (said : AllSaid) (draft : Draft) (rows : ℕ) (fault : ClientFault)
    → said ≡ record { draft = draft; rows = rows; end = Err fault } → IsSaid said draft rows (Err fault)
said_err said draft rows (Yp status) is = is
said_err said draft rows (Denied head) is = is
said_err said draft rows (BadReply at) is = is
said_err said draft rows (BadXid want got) is = is
said_err said draft rows (Torn at) is = is
said_err said draft rows (TooLong at) is = is
said_err said draft rows ReadFault is = is
said_err said draft rows WriteFault is = is
said_err said draft rows Spent is = is
said_err said draft rows (Rows row fault) is = is
said_err said draft rows NoMemory is = tt

filled_item : (n rows : ℕ) (draft : Draft) (left : Remaining) (read : ItemRead) → all_item_at left ≡ read
    → filled (n + 1) draft rows left ≡ by_item (filled n) draft rows read
unfolding filled
filled_item n rows draft left read is = rw add-one (ap (by_item (filled n) draft rows) is)

-- a row that is pushed
pub row_pushed : (n rows : ℕ) (before after : Draft) (row : Row) (left rest : Remaining)
    → all_item_at left ≡ Ok (Some row, rest) → refused before row ≡ None → after ≡ with_row before row
    → filled (n + 1) before rows left ≡ filled n after (rows + 1) rest
row_pushed n rows before after row left rest says fits is =
    filled_item n rows before left (Ok (Some row, rest)) says
    ∙ ap (λ (cause : Option VersionFault). by_refusal cause before rows
    (filled n (with_row before row) (rows + 1) rest)) fits
    ∙ ap (λ (d : Draft). filled n d (rows + 1) rest) (sym is)

-- one that is refused
pub row_refused : (n rows number : ℕ) (before after : Draft) (row : Row) (left rest : Remaining) (fault : ClientFault)
    → number ≡ rows + 1 → all_item_at left ≡ Ok (Some row, rest) → IsRowRefusal number (refused before row) fault
    → after ≡ before → IsSaid (filled (n + 1) before rows left) after number (Err fault)
row_refused n rows number before after row left rest (Rows at fault) count says cause same =
    filled_item n rows before left (Ok (Some row, rest)) says
    ∙ ap (λ (why : Option VersionFault). by_refusal why before rows (filled n (with_row before row) (rows + 1) rest))
    cause.1
    ∙ ap (λ (k : ℕ). record { draft = before; rows = k; end = Err (Rows k fault) }) (sym count)
    ∙ ap (λ (d : Draft). record { draft = d; rows = number; end = Err (Rows number fault) }) (sym same)
    ∙ ap (λ (k : ℕ). record { draft = after; rows = number; end = Err (Rows k fault) }) (sym cause.0)
row_refused n rows number before after row left rest NoMemory count says cause same = tt
row_refused n rows number before after row left rest (Yp status) count says cause same = absurd cause
row_refused n rows number before after row left rest (Denied head) count says cause same = absurd cause
row_refused n rows number before after row left rest (BadReply at) count says cause same = absurd cause
row_refused n rows number before after row left rest (BadXid want got) count says cause same = absurd cause
row_refused n rows number before after row left rest (Torn at) count says cause same = absurd cause
row_refused n rows number before after row left rest (TooLong at) count says cause same = absurd cause
row_refused n rows number before after row left rest ReadFault count says cause same = absurd cause
row_refused n rows number before after row left rest WriteFault count says cause same = absurd cause
row_refused n rows number before after row left rest Spent count says cause same = absurd cause

-- no more rows
pub rows_ended : (n rows : ℕ) (draft : Draft) (left rest : Remaining) → all_item_at left ≡ Ok (None, rest)
    → filled (n + 1) draft rows left ≡ record { draft = draft; rows = rows; end = Ok tt }
rows_ended n rows draft left rest says = filled_item n rows draft left (Ok (None, rest)) says

-- an item that is refused
pub rows_refused : (n rows rows' : ℕ) (draft : Draft) (left : Remaining) (fault : ClientFault) → rows' ≡ rows
    → all_item_at left ≡ Err fault → IsSaid (filled (n + 1) draft rows left) draft rows' (Err fault)
rows_refused n rows rows' draft left fault same says =
    said_err _ draft rows' fault
    (filled_item n rows draft left (Err fault) says
    ∙ ap (λ (k : ℕ). record { draft = draft; rows = k; end = Err fault }) (sym same))

-- where there are no bytes, it ends at once, whatever number of items may be read
filled_none : (draft : Draft) (rows : ℕ) (left : Remaining) → length left.bytes ≡ 0
    → filled 0 draft rows left ≡ filled 1 draft rows left
unfolding filled all_item_at bool_at word_at
filled_none draft rows left none =
    let short : ltb (length left.bytes) 4 ≡ true = lt-ltb _ _ (omega arith) in
    rw short refl

filled_more : (n : ℕ) (draft : Draft) (rows : ℕ) (left : Remaining) → length left.bytes ≤ n
    → (k : ℕ) × (filled n draft rows left ≡ filled (k + 1) draft rows left)
filled_more zero draft rows left enough = (0, filled_none draft rows left (omega arith))
filled_more (suc n) draft rows left enough = (n, ap (λ (k : ℕ). filled k draft rows left) (sym (add-one n)))

-- ---- all rows

-- More of the record was read, and some rows were pushed: what was said at first is what is said now, whatever comes
-- behind.
pub record PushedSoFar (before after : Draft) (old new : AllReply) (buf buf' : List ℕ)
    (was now : RecordProgress) : Type 0 where
  pub more : List ℕ
  pub stays : StaysWhole more was.whole now.whole
  pub given : GivesMore more was now
  pub said : (rest : List ℕ) (n : ℕ) → MayCome rest now.whole → length (waiting old buf ++ (more ++ rest)) ≤ n
      → (m : ℕ) × (length (waiting new buf' ++ rest) ≤ m)
      × (filled n before old.rows (ahead old buf (more ++ rest)) ≡ filled m after new.rows (ahead new buf' rest))

pub pushed_nothing : (draft : Draft) (reply : AllReply) (buf : List ℕ) (now : RecordProgress)
    → PushedSoFar draft draft reply reply buf buf now now
pushed_nothing draft reply buf now =
    record {
      more = [];
      stays = λ whole. (refl, whole);
      given = gives_nothing now;
      said = λ rest n may enough.
          (n, enough, refl);
    }

-- more of the record is read
pub so_far_read : (before after : Draft) (old mid new : AllReply) (buf buf' buf'' : List ℕ) (was now now' : RecordProgress)
    (more : List ℕ) → PushedSoFar before after old mid buf buf' was now → GivesMore more now now'
    → StaysWhole more now.whole now'.whole → waiting new buf'' ≡ waiting mid buf' ++ more → new.at ≡ mid.at
    → new.rows ≡ mid.rows → PushedSoFar before after old new buf buf'' was now'
so_far_read before after old mid new buf buf' buf'' was now now' more so_far given stays waits at rows = record {
  more = so_far.more ++ more;
  stays = λ whole. let first = so_far.stays whole in let second =
      stays first.1 in (rw (first.0, second.0) refl, second.1);
  given = gives_then so_far.more more was now now' so_far.given given;
  said = λ rest n may enough.
      let joined : so_far.more ++ more ++ rest ≡ so_far.more ++ (more ++ rest) = append_assoc so_far.more more rest in
      let none : now.whole ≡ true → more ++ rest ≡ [] =
      λ whole. ap (λ (xs : List ℕ). xs ++ rest) (stays whole).0 ∙ may (stays whole).1 in
      let h = so_far.said (more ++ rest) n none
      (subst (λ (xs : List ℕ). length (waiting old buf ++ xs) ≤ n) joined enough) in
      let here : waiting mid buf' ++ (more ++ rest) ≡ waiting new buf'' ++ rest =
      sym (append_assoc (waiting mid buf') more rest) ∙ ap (λ (xs : List ℕ). xs ++ rest) (sym waits) in (
        h.0,
        subst (λ (xs : List ℕ). length xs ≤ h.0) here h.1,
        ap (λ (xs : List ℕ). filled n before old.rows (ahead old buf xs)) joined ∙ h.2
            ∙ ap (λ (xs : List ℕ). filled h.0 after mid.rows (record { at = mid.at; bytes = xs })) here
            ∙ ap (λ (k : ℕ). filled h.0 after mid.rows (record { at = k; bytes = waiting new buf'' ++ rest })) (sym at)
            ∙ ap (λ (k : ℕ). filled h.0 after k (ahead new buf'' rest)) (sym rows),
      );
}

-- one row more is pushed
pub so_far_pushed : (before mid after : Draft) (old half new : AllReply) (buf buf' : List ℕ) (was now : RecordProgress)
    → PushedSoFar before mid old half buf buf' was now
    → ((more : List ℕ) (n : ℕ) → MayCome more now.whole
    → Advances (filling mid half buf' more) (filling after new buf' more) (Ok true) n)
    → half.at < new.at → new.at + length (waiting new buf') ≡ half.at + length (waiting half buf')
    → PushedSoFar before after old new buf buf' was now
so_far_pushed before mid after old half new buf buf' was now so_far advances forward total = record {
  more = so_far.more;
  stays = so_far.stays;
  given = so_far.given;
  said = λ rest n may enough.
      let h = so_far.said rest n may enough in
      let less : length (waiting new buf' ++ rest) + 1 ≤ h.0 =
      omega (arith, h.1, length-append (waiting half buf') rest, length-append (waiting new buf') rest) in
      let one : h.0 ≡ h.0 - 1 + 1 = omega arith in (
        h.0 - 1,
        omega arith,
        h.2 ∙ ap (λ (k : ℕ). filled k mid half.rows (ahead half buf' rest)) one
            ∙ advances rest (h.0 - 1) may,
      );
}

-- the end of the rows, or a refusal
pub so_far_ended : (before mid after : Draft) (old half new : AllReply) (buf buf' : List ℕ) (was now : RecordProgress)
    (end : Result (Unit {0}) ClientFault) → PushedSoFar before mid old half buf buf' was now
    → ((more : List ℕ) (n : ℕ) → MayCome more now.whole
    → IsSaid (filled (n + 1) mid half.rows (ahead half buf' more)) after new.rows end)
    → PushesRows before old buf was now (answered after new end)
so_far_ended before mid after old half new buf buf' was now end so_far ends = record {
  more = so_far.more;
  stays = so_far.stays;
  given = so_far.given;
  said = λ rest n may enough.
      let h = so_far.said rest n may enough in
      let f = filled_more h.0 mid half.rows (ahead half buf' rest) h.1 in
      subst (λ (said : AllSaid). IsSaid said after new.rows end) (sym (h.2 ∙ f.1)) (ends rest f.0 may);
}

-- ---- one turn of the loop

-- Some rows were pushed, and more of the record may come.
pub record Ready (before after : Draft) (old new : AllReply) (buf buf' : List ℕ) (was now : RecordProgress) : Type 0 where
  pub so_far : PushedSoFar before after old new buf buf' was now
  pub underway : IsUnderway (new.at + length (waiting new buf')) now

pub ready : (before after : Draft) (old mid new : AllReply) (buf buf' buf'' : List ℕ) (was now now' : RecordProgress)
    → PushedSoFar before after old mid buf buf' was now → IsUnderway (mid.at + length (waiting mid buf')) now
    → TakesMore mid new buf' buf'' now now'
    → new ≡ record mid { start = new.start; end = new.end; whole = new.whole }
    → Ready before after old new buf buf'' was now'
ready before after old mid new buf buf' buf'' was now now' so_far underway h same =
    let at : new.at ≡ mid.at = ap (λ (r : AllReply). r.at) same in
    let rows : new.rows ≡ mid.rows = ap (λ (r : AllReply). r.rows) same in
    record {
      so_far = so_far_read before after old mid new buf buf' buf'' was now now' h.0 so_far h.2 h.1 h.3 at rows;
      underway = underway_more (mid.at + length (waiting mid buf')) (new.at + length (waiting new buf'')) h.0 now now'
          h.2 (omega (arith, at, ap length h.3, length-append (waiting mid buf') h.0)) underway;
    }

pub ready_next : (before mid after : Draft) (old half new : AllReply) (buf buf' : List ℕ) (was : RecordProgress)
    (input : Option (List ℕ)) (reader : ReaderState)
    → Ready before mid old half buf buf' was (progress input reader half.whole)
    → ((more : List ℕ) (n : ℕ) → MayCome more half.whole
    → Advances (filling mid half buf' more) (filling after new buf' more) (Ok true) n)
    → half.at < new.at → new.at + length (waiting new buf') ≡ half.at + length (waiting half buf')
    → new ≡ record half { start = new.start; at = new.at; rows = new.rows }
    → Ready before after old new buf buf' was (progress input reader new.whole)
ready_next before mid after old half new buf buf' was input reader h advances forward total same =
    let whole : new.whole ≡ half.whole = ap (λ (r : AllReply). r.whole) same in
    let now = progress input reader half.whole in
    subst (λ (whole : Bool). Ready before after old new buf buf' was (progress input reader whole)) (sym whole) (record {
      so_far = so_far_pushed before mid after old half new buf buf' was now h.so_far advances forward total;
      underway = underway_same (half.at + length (waiting half buf'))
          (new.at + length (waiting new buf')) now total h.underway;
    })

pub ready_ended : (before mid after : Draft) (old half new : AllReply) (buf buf' : List ℕ) (was : RecordProgress)
    (input : Option (List ℕ)) (reader : ReaderState) (end : Result (Unit {0}) ClientFault)
    → Ready before mid old half buf buf' was (progress input reader half.whole)
    → ((more : List ℕ) (n : ℕ) → MayCome more half.whole
    → IsSaid (filled (n + 1) mid half.rows (ahead half buf' more)) after new.rows end)
    → new ≡ record half { start = new.start; at = new.at; rows = new.rows }
    → PushesRows before old buf was (progress input reader new.whole) (answered after new end)
ready_ended before mid after old half new buf buf' was input reader end h ends same =
    let whole : new.whole ≡ half.whole = ap (λ (r : AllReply). r.whole) same in
    subst (λ (whole : Bool). PushesRows before old buf was (progress input reader whole) (answered after new end))
    (sym whole) (so_far_ended before mid after old half new buf buf' was (progress input reader half.whole) end h.so_far
    ends)

pub ready_underway : (before mid : Draft) (old half new : AllReply) (buf buf' : List ℕ) (was : RecordProgress)
    (input : Option (List ℕ)) (reader : ReaderState)
    → Ready before mid old half buf buf' was (progress input reader half.whole)
    → new.at + length (waiting new buf') ≡ half.at + length (waiting half buf')
    → new ≡ record half { start = new.start; at = new.at; rows = new.rows }
    → IsUnderway (new.at + length (waiting new buf')) (progress input reader new.whole)
ready_underway before mid old half new buf buf' was input reader h total same =
    let whole : new.whole ≡ half.whole = ap (λ (r : AllReply). r.whole) same in
    subst (λ (whole : Bool). IsUnderway (new.at + length (waiting new buf')) (progress input reader whole)) (sym whole)
    (underway_same (half.at + length (waiting half buf')) (new.at + length (waiting new buf'))
    (progress input reader half.whole) total h.underway)

-- what is left of the record falls
pub at_falls : (old new rest : ℕ) (now : RecordProgress) → old < new → IsUnderway (new + rest) now
    → all_max - new < all_max - old
at_falls old new rest now forward underway = let within = underway_within (new + rest) now underway in omega arith
