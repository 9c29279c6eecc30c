use Rattle.std.proofs.Common.{◌≡◌, ◌∙◌, ◌+◌, length, Some, None, Ok, refl, ap, rules, inl, inr}
use Rattle.yp_board.specs.declared.catalog.MapName.{MapName}
use Rattle.yp_command.specs.declared.office.status.Status.{Status}
use Rattle.yp_command.specs.declared.office.status.Status.TheVariants.{DiskFault}
use Rattle.std.specs.Prelude.{IfSome}
use Rattle.yp_version.specs.Versions.{MapVersion}
use Rattle.yp_map_file.specs.Loads.{Loads}
use Rattle.yp_map_file.specs.Stands.{stands}
use Rattle.yp_map_file.specs.inside.Slots.{SlotModel}
use Rattle.yp_board.specs.Catalogues.{name_view}
use Rattle.yp_command_maps.specs.inside.Build.{last_view}
use Rattle.yp_command.specs.office.Disks.{IsOnlyRead}
use Rattle.yp_command_maps.specs.Revnet.{OwnDiskFails}
use Rattle.yp_command_maps.specs.inside.Revnet.{reverse_job, revnet_tells}
use Rattle.yp_command_maps.proofs.Reversing.{renews_err, fails, built_is, risen_first, risen_second, risen_later, made_behind, unmade_behind}
use Rattle.yp_command_maps.proofs.Reversing.{store_unloaded, netgroup_unloaded, none_stands, unmade, unstored, renewed}
use Rattle.yp_command_maps.proofs.Reversing.{err_same, disk_fault_names, made_no_disk, stops_names}
use Rattle.yp_command_maps.proofs.revnet.renew.Goals as goal

pub returns-in-Err-clause-renews : goal.returns-in-Err-clause-renews
returns-in-Err-clause-renews g c =
    let history = g.D.Disk.history in
    let faults = g.D.Disk.faults in
    let store = name_view c.args.names.store in
    let a = faults c.args.slot.now.disk in
    let a' = faults c.load.new.self.disk in
    let b = faults c.args.netgroup.now.disk in
    store_unloaded (reverse_job c.args.reversal.now store) c.args.reversal.now.moment (history c.args.slot.now.disk) (history c.args.netgroup.now.disk) (a + b)
    store c.in-Err.fault c.status_of_file.result (history c.load.new.self.disk) (a' + b) refl c.status_of_file.ensures.fails
    c.in-Err.ensures.stands c.in-Err.ensures.any_moment
    (λ e. risen_first a a' b b (c.in-Err.ensures.cause (ap fails e)) (search rules))

pub returns-in-Ok-None-clause-renews : goal.returns-in-Ok-None-clause-renews
returns-in-Ok-None-clause-renews g c =
    let history = g.D.Disk.history in
    let faults = g.D.Disk.faults in
    let store = name_view c.args.names.store in
    let netgroup = history c.args.netgroup.now.disk in
    let only : IsOnlyRead netgroup (history c.load-2.new.self.disk) =
    record { same = c.load-2.ensures.nothing_written; any_moment = c.load-2.ensures.any_moment } in
    let none : IfSome netgroup (λ n. Loads (stands n.state.reads) (Ok None)) = search rules in
    none_stands (reverse_job c.args.reversal.now store) c.args.reversal.now.moment (history c.args.slot.now.disk) netgroup
    (faults c.args.slot.now.disk + faults c.args.netgroup.now.disk) (history c.load.new.self.disk) c.in-Ok.last
    c.in-Ok.ensures.stands c.in-Ok.ensures.any_moment (history c.load-2.new.self.disk) only c.args.names.netgroup
    (faults c.load.new.self.disk + faults c.load-2.new.self.disk) c.requires.netgroup none

pub returns-in-Err-load-clause-renews : goal.returns-in-Err-load-clause-renews
returns-in-Err-load-clause-renews g c =
    let history = g.D.Disk.history in
    let faults = g.D.Disk.faults in
    let store = name_view c.args.names.store in
    let netgroup = history c.args.netgroup.now.disk in
    let only : IsOnlyRead netgroup (history c.load-2.new.self.disk) =
    record { same = c.load-2.ensures.nothing_written; any_moment = c.load-2.ensures.any_moment } in
    let a = faults c.args.slot.now.disk in
    let a' = faults c.load.new.self.disk in
    let b = faults c.args.netgroup.now.disk in
    let b' = faults c.load-2.new.self.disk in
    netgroup_unloaded (reverse_job c.args.reversal.now store) c.args.reversal.now.moment (history c.args.slot.now.disk) netgroup (a + b)
    (history c.load.new.self.disk) c.in-Ok.last c.in-Ok.ensures.stands c.in-Ok.ensures.any_moment
    (history c.load-2.new.self.disk) only (name_view c.args.names.netgroup) c.in-Err-load.fault
    c.status_of_file-in-Err-load.result (a' + b') c.requires.netgroup c.status_of_file-in-Err-load.ensures.fails
    c.in-Err-load.ensures.stands
    (λ e. risen_second a a' b b' c.load.ensures.never_falls (c.in-Err-load.ensures.cause (ap fails e)))

pub returns-in_err-version-clause-renews : goal.returns-in_err-version-clause-renews
returns-in_err-version-clause-renews g c =
    let history = g.D.Disk.history in
    let faults = g.D.Disk.faults in
    let store = name_view c.args.names.store in
    let job = reverse_job c.args.reversal.now store in
    let old = history c.args.slot.now.disk in
    let mid = history c.load.new.self.disk in
    let netgroup = history c.args.netgroup.now.disk in
    let netgroup' = history c.load-2.new.self.disk in
    let before = faults c.args.slot.now.disk + faults c.args.netgroup.now.disk in
    let after = faults c.load.new.self.disk + faults c.load-2.new.self.disk in
    let only : IsOnlyRead netgroup netgroup' =
    record { same = c.load-2.ensures.nothing_written; any_moment = c.load-2.ensures.any_moment } in
    let groups : MapVersion = c.in-Ok-Some.groups in
    let stored : IfSome netgroup (λ n. Loads (stands n.state.reads) (Ok (Some groups))) =
    search (rules, c.in-Ok-Some.ensures.stands, c.in-Ok-Some.field-0-is, c.in-Ok-Some.groups-is) in
    let last : last_view c.as_ref.result ≡ c.in-Ok.last = search (rules, c.as_ref.ensures.value) in
    let status = c.in_err-version.field-0.0 in
    renews_err job c.args.reversal.now.moment (revnet_tells old netgroup before) (revnet_tells mid netgroup' after)
    c.from_residual.result status c.from_residual.ensures.1
    (unmade job c.args.reversal.now.moment old netgroup before mid c.in-Ok.last c.in-Ok.ensures.stands c.in-Ok.ensures.any_moment netgroup' only
    groups stored status after
    (unmade_behind job c.args.reversal.now.moment (last_view c.as_ref.result) c.in-Ok.last groups.rows
    status last c.in_err-version.ensures.unmade))

pub returns-in_err-generation-clause-renews : goal.returns-in_err-generation-clause-renews
returns-in_err-generation-clause-renews g c =
    let history = g.D.Disk.history in
    let faults = g.D.Disk.faults in
    let store = name_view c.args.names.store in
    let job = reverse_job c.args.reversal.now store in
    let old = history c.args.slot.now.disk in
    let mid = history c.load.new.self.disk in
    let new = history c.commit.new.slot.disk in
    let netgroup = history c.args.netgroup.now.disk in
    let netgroup' = history c.load-2.new.self.disk in
    let a = faults c.args.slot.now.disk in
    let a' = faults c.load.new.self.disk in
    let a'' = faults c.commit.new.slot.disk in
    let b = faults c.args.netgroup.now.disk in
    let b' = faults c.load-2.new.self.disk in
    let only : IsOnlyRead netgroup netgroup' =
    record { same = c.load-2.ensures.nothing_written; any_moment = c.load-2.ensures.any_moment } in
    let groups : MapVersion = c.in-Ok-Some.groups in
    let stored : IfSome netgroup (λ n. Loads (stands n.state.reads) (Ok (Some groups))) =
    search (rules, c.in-Ok-Some.ensures.stands, c.in-Ok-Some.field-0-is, c.in-Ok-Some.groups-is) in
    let last : last_view c.as_ref.result ≡ c.in-Ok.last = search (rules, c.as_ref.ensures.value) in
    let version : MapVersion = c.in_ok-version.version in
    let status = c.in_err-generation.field-0.0 in
    let is_made = made_behind job c.args.reversal.now.moment (last_view c.as_ref.result) c.in-Ok.last groups.rows
    version last c.in_ok-version.ensures.made in
    renews_err job c.args.reversal.now.moment (revnet_tells old netgroup (a + b)) (revnet_tells new netgroup' (a'' + b'))
    c.from_residual-in_err-generation.result status
    c.from_residual-in_err-generation.ensures.1
    (unstored job c.args.reversal.now.moment old netgroup (a + b) mid c.in-Ok.last c.in-Ok.ensures.stands c.in-Ok.ensures.any_moment netgroup' only
    groups stored version is_made c.in-Ok.ensures.nothing_written c.load.new.self.generation c.in-Ok.ensures.generation new
    c.commit.ensures.any_moment c.commit.ensures.few store status (a'' + b') refl c.in_err-generation.ensures.stops
    (λ mild. ap (λ (slot : SlotModel g.row.D.Denot). history slot.disk) (c.in_err-generation.ensures.early mild))
    (λ map e. risen_first a a'' b b'
    (risen_later a a' a'' c.load.ensures.never_falls (c.in_err-generation.ensures.cause map e)) c.load-2.ensures.never_falls))

pub returns-clause-renews : goal.returns-clause-renews
returns-clause-renews g c =
    let history = g.D.Disk.history in
    let faults = g.D.Disk.faults in
    let store = name_view c.args.names.store in
    let job = reverse_job c.args.reversal.now store in
    let old = history c.args.slot.now.disk in
    let mid = history c.load.new.self.disk in
    let new = history c.commit.new.slot.disk in
    let netgroup = history c.args.netgroup.now.disk in
    let netgroup' = history c.load-2.new.self.disk in
    let before = faults c.args.slot.now.disk + faults c.args.netgroup.now.disk in
    let after = faults c.commit.new.slot.disk + faults c.load-2.new.self.disk in
    let only : IsOnlyRead netgroup netgroup' =
    record { same = c.load-2.ensures.nothing_written; any_moment = c.load-2.ensures.any_moment } in
    let groups : MapVersion = c.in-Ok-Some.groups in
    let stored : IfSome netgroup (λ n. Loads (stands n.state.reads) (Ok (Some groups))) =
    search (rules, c.in-Ok-Some.ensures.stands, c.in-Ok-Some.field-0-is, c.in-Ok-Some.groups-is) in
    let last : last_view c.as_ref.result ≡ c.in-Ok.last = search (rules, c.as_ref.ensures.value) in
    let version : MapVersion = c.in_ok-version.version in
    let is_made = made_behind job c.args.reversal.now.moment (last_view c.as_ref.result) c.in-Ok.last groups.rows
    version last c.in_ok-version.ensures.made in
    let generation = c.load.new.self.generation in
    let is = built_is c.order.result version.order c.len.result (length version.rows) c.in_ok-generation.generation (generation + 1)
    c.order.ensures.order c.len.ensures.len c.in_ok-generation.ensures.generation in
    renewed job c.args.reversal.now.moment old netgroup before mid c.in-Ok.last c.in-Ok.ensures.stands c.in-Ok.ensures.any_moment netgroup' only
    groups stored version is_made c.in-Ok.ensures.nothing_written generation c.in-Ok.ensures.generation new
    c.commit.ensures.any_moment c.commit.ensures.few
    (record { order = c.order.result; rows = c.len.result; generation = c.in_ok-generation.generation }) after is
    c.in_ok-generation.ensures.stored

pub returns-in-Err-clause-own_disk : goal.returns-in-Err-clause-own_disk
returns-in-Err-clause-own_disk g c map e =
    let is = disk_fault_names (name_view c.args.names.store) c.in-Err.fault c.status_of_file.result map
    c.status_of_file.ensures.fails e in
    inl (is.1, c.in-Err.ensures.cause (ap fails is.0))

pub returns-in-Ok-None-clause-own_disk : goal.returns-in-Ok-None-clause-own_disk
returns-in-Ok-None-clause-own_disk g c map e = absurd cc

pub returns-in-Err-load-clause-own_disk : goal.returns-in-Err-load-clause-own_disk
returns-in-Err-load-clause-own_disk g c map e =
    let is = disk_fault_names (name_view c.args.names.netgroup) c.in-Err-load.fault c.status_of_file-in-Err-load.result map
    c.status_of_file-in-Err-load.ensures.fails e in
    inr (is.1 ∙ c.requires.netgroup, c.in-Err-load.ensures.cause (ap fails is.0))

pub returns-in_err-version-clause-own_disk : goal.returns-in_err-version-clause-own_disk
returns-in_err-version-clause-own_disk g c =
    let faults = g.D.Disk.faults in
    let store = name_view c.args.names.store in
    let status = c.in_err-version.field-0.0 in
    err_same c.from_residual.result status
    (λ (why : Status). (map : MapName) → why ≡ DiskFault map → OwnDiskFails store (name_view map)
    (faults c.args.slot.now.disk) (faults c.load.new.self.disk)
    (faults c.args.netgroup.now.disk) (faults c.load-2.new.self.disk))
    c.from_residual.ensures.1
    (λ map e. absurd (made_no_disk c.args.reversal.now.name.now c.args.reversal.now.field c.args.reversal.now.moment (last_view c.as_ref.result)
    c.in-Ok-Some.groups.rows status map c.in_err-version.ensures.unmade e))

pub returns-in_err-generation-clause-own_disk : goal.returns-in_err-generation-clause-own_disk
returns-in_err-generation-clause-own_disk g c =
    let faults = g.D.Disk.faults in
    let store = name_view c.args.names.store in
    let status = c.in_err-generation.field-0.0 in
    let a = faults c.args.slot.now.disk in
    let a' = faults c.load.new.self.disk in
    let a'' = faults c.commit.new.slot.disk in
    err_same c.from_residual-in_err-generation.result status
    (λ (why : Status). (map : MapName) → why ≡ DiskFault map → OwnDiskFails store (name_view map) a a''
    (faults c.args.netgroup.now.disk) (faults c.load-2.new.self.disk))
    c.from_residual-in_err-generation.ensures.1
    (λ map e. inl (
      stops_names store c.load.new.self.generation status map c.in_err-generation.ensures.stops e,
      risen_later a a' a'' c.load.ensures.never_falls (c.in_err-generation.ensures.cause map e),
    ))
