use Rattle.std.proofs.Common.{◌≡◌, [], List, ℕ, Result, Ok, Err, map}
use Rattle.std.specs.Prelude.{OnOk, IfErr}
use Rattle.yp_version.specs.Rows.{Row}
use Rattle.yp_version.specs.Drafts.{Draft}
use Rattle.yp_netgroup.specs.declared.reverse.fault.RevFault.{RevFault}
use Rattle.yp_netgroup.specs.declared.reverse.field.Field.{Field}
use Rattle.yp_netgroup.specs.declared.reverse.keys.Listing.{Listing}
use Rattle.yp_netgroup.specs.inside.reverse.Groups.{IsKeptOf, IsReadOf}
use Rattle.yp_netgroup.specs.inside.reverse.Links.{LinkTable, bytes_in, sources, under}
use Rattle.yp_netgroup.specs.inside.reverse.Listings.{link_of}
use Rattle.yp_netgroup.specs.inside.reverse.Refused.{IsReverseCause, IsSoFar, HasAllKeys, HasAllRows}
use Rattle.yp_netgroup.proofs.reverse.Drafting.{so_far-none}
use Rattle.yp_netgroup.proofs.reverse.Keyed.{kept_of, keys_whole, sorted_keys}
use Rattle.yp_netgroup.proofs.reverse.reversing.put_keys.Goals as goal

-- what is so of the keys of each map that is kept so is so of each of which the listings are read
module _ (named by_key : LinkTable) (listings : List Listing) (keys : List (List ℕ)) (start : Draft)
    (none : start.rows ≡ [])
    (of_keys : (key : List ℕ) → under by_key key ≡ sources key (map link_of listings))
    (all : (rows : List Row) (field : Field) → IsReadOf rows field named (map link_of listings)
    → HasAllKeys rows field keys) where
  all_put : {T : Type 0} (result : Result T RevFault) (draft : Draft)
      → OnOk result ((rows : List Row) (field : Field) (first : Draft) → IsKeptOf rows field named by_key
      → IsSoFar rows field first start [] → IsSoFar rows field first draft keys)
      → OnOk result ((rows : List Row) (field : Field) → IsReadOf rows field named (map link_of listings)
      → HasAllRows rows field start draft)
  all_put (Ok x) draft h = λ rows field read. record {
    keys = keys;
    so_far = h rows field start (kept_of rows field named listings read by_key of_keys)
        (so_far-none rows field start none);
    all = all rows field read;
  }
  all_put (Err fault) draft h = tt

  not_put : {T : Type 0} (result : Result T RevFault)
      → IfErr result (λ fault. (rows : List Row) (field : Field) (first : Draft) → IsKeptOf rows field named by_key
      → IsSoFar rows field first start [] → HasAllKeys rows field keys → IsReverseCause rows field first fault)
      → IfErr result (λ fault. (rows : List Row) (field : Field) → IsReadOf rows field named (map link_of listings)
      → IsReverseCause rows field start fault)
  not_put (Ok x) h = tt
  not_put (Err fault) h = λ rows field read.
      h rows field start (kept_of rows field named listings read by_key of_keys) (so_far-none rows field start none)
      (all rows field read)

pub put_rows-requires : goal.put_rows-requires
put_rows-requires g c =
    let keys = c.rising-keys.result.items in
    record { rising = sorted_keys keys c.deref.result.now c.deref.ensures.value c.rising-keys.ensures.rising }

pub returns-clause-all : goal.returns-clause-all
returns-clause-all g c =
    let named = c.args.named.now in
    let listings = c.args.listings.now in
    all_put named c.args.listed.now listings (bytes_in c.deref.result.now) c.args.builder.now c.requires.none
    c.requires.keys (λ rows field read. keys_whole rows field named listings read c.in_ok-keys_of.field-0.items
    c.rising-keys.result.items c.deref.result.now c.in_ok-keys_of.ensures c.deref.ensures.value
    c.rising-keys.ensures.same) c.put_rows.result c.put_rows.new.builder c.put_rows.ensures.ok

pub returns-clause-cause : goal.returns-clause-cause
returns-clause-cause g c =
    let named = c.args.named.now in
    let listings = c.args.listings.now in
    not_put named c.args.listed.now listings (bytes_in c.deref.result.now) c.args.builder.now c.requires.none
    c.requires.keys (λ rows field read. keys_whole rows field named listings read c.in_ok-keys_of.field-0.items
    c.rising-keys.result.items c.deref.result.now c.in_ok-keys_of.ensures c.deref.ensures.value
    c.rising-keys.ensures.same) c.put_rows.result c.put_rows.ensures.err
