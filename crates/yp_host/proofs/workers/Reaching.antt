-- The orders that a fetch reached.
use Rattle.std.proofs.Common.{◌≡◌, ◌⊎◌, inl, inr, ℕ, ◌+◌, Bool, true, false, if◌then◌else◌, ◌==◌, ◌||◌, List, length, Option, None, Some, Result, Ok, Err, refl, ◌∙◌, ap}
use Rattle.yp_io.specs.declared.stream.Peer.{Peer}
use Rattle.yp_io.specs.Dials.{Wires, Dialing, connected}
use Rattle.yp_client.specs.declared.fault.ClientFault.{ClientFault}
use Rattle.yp_client.specs.declared.fault.ClientFault.TheVariants as client
use Rattle.yp_version.specs.declared.builder.VersionFault.{VersionFault}
use Rattle.yp_version.specs.declared.builder.VersionFault.TheVariants as version
use Rattle.yp_client.specs.Limits.{reply_max}
use Rattle.yp_client.specs.Results.{order_of}
use Rattle.yp_messages.specs.declared.stat.YpStat.{YpStat}
use Rattle.yp_messages.specs.declared.stat.YpStat.TheVariants as stats
use Rattle.yp_transfer.specs.declared.fault.XfrFault.TheVariants.{Maddr, Rpc, Nodom, Nomap, Yperr, Xfrerr, Age, Skew, Dbm, Badargs, File, Refused, NoMemory}
use Rattle.yp_transfer.specs.Faults.{of_client}
use Rattle.yp_transfer.specs.HostTable.{HostList}
use Rattle.yp_transfer.specs.Fetching.{Wanted, FetchOutcome, AsksThen, Unless, ByAnswer, AsksMaster, against_order}
use Rattle.yp_transfer.specs.Fetched.{StreamPlace, place_of, ReadsReply, by_bytes, Fetched}
use Rattle.yp_transfer.specs.Dialing.{FetchesFrom}
use Rattle.yp_host.specs.workers.Wires.{BytesHaveOrder, BeginsWithOrder, CoversOrders}
use Rattle.yp_host.specs.inside.workers.Wires.{orders_in}
use Rattle.yp_host.proofs.workers.Dialing.{fetched_counts}

-- ---- an order that was reached

-- a fault of a client is no order
not_of_yp : (stat : YpStat) → orders_in (Err (of_client (client.Yp stat))) ≡ 0
not_of_yp stats.True = refl
not_of_yp stats.Nomore = refl
not_of_yp stats.False = refl
not_of_yp stats.Nomap = refl
not_of_yp stats.Nodom = refl
not_of_yp stats.Nokey = refl
not_of_yp stats.Badop = refl
not_of_yp stats.Baddb = refl
not_of_yp stats.Yperr = refl
not_of_yp stats.Badargs = refl
not_of_yp stats.Vers = refl

not_of_rows : (row : ℕ) (fault : VersionFault) → orders_in (Err (of_client (client.Rows row fault))) ≡ 0
not_of_rows row (version.KeyLong len) = refl
not_of_rows row (version.ValueLong len) = refl
not_of_rows row version.TooManyRows = refl
not_of_rows row version.TooBig = refl
not_of_rows row version.NoMemory = refl

pub not_of_client : (fault : ClientFault) → orders_in (Err (of_client fault)) ≡ 0
not_of_client (client.Yp stat) = not_of_yp stat
not_of_client (client.Denied head) = refl
not_of_client (client.BadReply at) = refl
not_of_client (client.BadXid want got) = refl
not_of_client (client.Torn at) = refl
not_of_client (client.TooLong at) = refl
not_of_client client.ReadFault = refl
not_of_client client.WriteFault = refl
not_of_client client.Spent = refl
not_of_client (client.Rows row fault) = not_of_rows row fault
not_of_client client.NoMemory = refl

few_orders : (outcome : FetchOutcome) → (orders_in outcome ≡ 0) ⊎ (orders_in outcome ≡ 1)
few_orders (Ok version) = inr refl
few_orders (Err (Age shown offered)) = inr refl
few_orders (Err Maddr) = inl refl
few_orders (Err Rpc) = inl refl
few_orders (Err Nodom) = inl refl
few_orders (Err Nomap) = inl refl
few_orders (Err (Yperr stat)) = inl refl
few_orders (Err (Xfrerr at)) = inl refl
few_orders (Err (Skew first second)) = inl refl
few_orders (Err Dbm) = inl refl
few_orders (Err Badargs) = inl refl
few_orders (Err File) = inl refl
few_orders (Err Refused) = inl refl
few_orders (Err NoMemory) = inl refl

module _ (wanted : Wanted) (stream : List ℕ) (outcome : FetchOutcome) (last : StreamPlace) where
  by_answer : (answer : Result ℕ ClientFault) (middle : StreamPlace)
      → ReadsReply reply_max order_of answer (place_of 1 0 stream) middle
      → ByAnswer (λ order. Unless (against_order wanted order) (AsksMaster by_bytes order)) answer outcome middle last
      → (orders_in outcome ≡ 0) ⊎ BytesHaveOrder stream
  by_answer (Ok order) middle reads goes = elim reads [
    | inl whole ↦ inr record { order = order; next = middle; replied = whole }
    | inr un ↦ elim un.0 [ inl begun ↦ absurd cc | inr long ↦ absurd cc ]
  ]
  by_answer (Err fault) middle reads goes = inl (ap orders_in goes.0 ∙ not_of_client fault)

  by_names : (empty : Bool)
      → Unless (if empty then Some Badargs else None)
      (AsksThen (by_bytes.order) (λ order. Unless (against_order wanted order) (AsksMaster by_bytes order)))
      outcome (place_of 1 0 stream) last
      → (orders_in outcome ≡ 0) ⊎ BytesHaveOrder stream
  by_names true stops = inl (ap orders_in stops.0)
  by_names false asks = by_answer asks.answer asks.middle asks.answered asks.goes_on

by_order : (wanted : Wanted) (peer : Peer) (stream : List ℕ) (output : Option (List ℕ)) (outcome : FetchOutcome)
    → Fetched wanted (place_of 1 0 stream) outcome
    → (orders_in outcome ≡ 0) ⊎ BeginsWithOrder (connected peer (Some stream) output)
by_order wanted peer stream output outcome fetched =
    by_names wanted stream outcome fetched.0 (length wanted.domain == 0 || length wanted.map == 0) fetched.1

pub fetched_orders : (start : Option Wires) (orders : ℕ) (wanted : Wanted) (outcome : FetchOutcome) (old new : Dialing)
    → CoversOrders start old.past orders → (hosts : HostList) (source : List ℕ) → FetchesFrom hosts source wanted outcome old new
    → CoversOrders start new.past (orders + orders_in outcome)
fetched_orders start orders wanted outcome old new covers hosts source fetches =
    fetched_counts BeginsWithOrder orders_in (refl, refl, refl, refl) (λ peer output. tt) few_orders wanted outcome
    (λ peer stream output. by_order wanted peer stream output outcome) start orders old new covers hosts source fetches
