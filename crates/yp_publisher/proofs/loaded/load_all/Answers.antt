use Rattle.std.proofs.Common.{◌≡◌, ◌+◌, [], ◌∷◌, length, ap, ◌∙◌, rules, arith}
use Rattle.std.proofs.lemmas.List.{length-append}
use Rattle.yp_publisher.proofs.Loading.{loading_none, loading_more, all_stand, loading_stopped, stopped_first}
use Rattle.yp_publisher.proofs.loaded.load_all.Goals as goal

pub returns-in_default-clause-refused : goal.returns-in_default-clause-refused
returns-in_default-clause-refused g c =
    let L = g.met.D.Disk in
    stopped_first g.D.Disk.history g.D.Disk.faults L.stays L.only_now c.args.disks.items
    (λ (none : length c.args.disks.items ≡ 0). (let len : c.len.result ≡ 0 = search rules in
    let no = c.in_default.ensures.succeeds len in cc))

pub loop-disk-init : goal.loop-disk-init
loop-disk-init g c = record {
  loading = loading_none g.D.Disk.history g.D.Disk.faults c.args.disks.items c.reverse.new.self.items c.in-Ok.maps.items
      c.reverse.ensures.items (search rules);
  count = search rules;
  maps = search rules;
  disks = search rules;
}

pub loop-disk-preserved : goal.loop-disk-preserved
loop-disk-preserved g c =
    let old = c.loop-disk.invariant in
    let popped = c.in-Some.ensures.len in
    let more : length c.push_reserved.new.self.items ≡ length c.loop-disk.maps.items + 1 =
    ap length c.push_reserved.ensures.items ∙ length-append c.loop-disk.maps.items (c.in-Ok-load.stored ∷ []) in
    let fewer : length c.loop-disk.rest.items ≡ length c.pop.new.self.items + 1 = ap length c.in-Some.ensures.items
    ∙ length-append c.pop.new.self.items (c.in-Some.disk ∷ []) in
    record {
      loading = loading_more g.D.Disk.history g.D.Disk.faults c.args.disks.items c.loop-disk.rest.items
          c.pop.new.self.items c.loop-disk.maps.items c.push_reserved.new.self.items c.in-Some.disk c.in-Ok-load.stored
          c.loop-disk.invariant.loading c.in-Some.ensures.items c.in-Ok-load.ensures.opened
          c.push_reserved.ensures.items;
      count = omega arith;
      maps = search rules;
      disks = search rules;
    }

pub returns-in-Err-clause-refused : goal.returns-in-Err-clause-refused
returns-in-Err-clause-refused g c =
    loading_stopped g.D.Disk.history g.D.Disk.faults c.args.disks.items c.loop-disk.rest.items c.pop.new.self.items
    c.push_reserved-in-Err.new.self.items c.give_back.result.items c.loop-disk.maps.items c.in-Some.disk
    c.in-Err.disk c.len-in-Err.result c.in-Err.fault
    c.loop-disk.invariant.loading c.in-Some.ensures.items
    (search rules) c.push_reserved-in-Err.ensures.items c.give_back.ensures.disks (search rules)

pub invariant_of-result : goal.invariant_of-result
invariant_of-result g c =
    let loading = c.loop-disk.invariant.loading in (
      search rules,
      search rules,
      all_stand g.D.Disk.history g.D.Disk.faults loading.front c.loop-disk.maps.items loading.each,
    )
