use Rattle.std.proofs.Common.{◌∙◌, ap, Bool, Option}
use Rattle.yp_version.specs.Versions.{MapVersion}
use Rattle.yp_publisher.specs.Keeping.{keeping_of}
use Rattle.yp_transfer.specs.Installing.{marking}
use Rattle.yp_transfer.specs.inside.Requests.{request_view}
use Rattle.yp_transfer.proofs.Offering.{is_taken, is_not_taken}
use Rattle.yp_transfer.proofs.install.install_fetched.Goals as goal

pub returns-in-Ok-install : goal.returns-in-Ok-install
returns-in-Ok-install g c =
    let marked_is =
    c.marked-marked.ensures ∙ ap (λ (secure : Bool). record c.args.version { secure = secure })
    (c.marking-secure.ensures
    ∙ ap (λ (version : Option MapVersion). marking c.args.request.now.mark version) c.shown.ensures.version) in
    is_taken (keeping_of g.D.Disk.history g.D.Disk.faults g.B.Show.log) (request_view c.args.request.now) c.args.version
    c.marked-marked.result c.args.publisher.now c.reopen.new.self c.install.new.self c.in-Ok.ensures.opened marked_is
    c.in-Ok-install.installed c.in-Ok-install.ensures.installed c.in-Ok-install.ensures.answer

pub returns-in-Err-install : goal.returns-in-Err-install
returns-in-Err-install g c =
    let marked_is =
    c.marked-marked.ensures ∙ ap (λ (secure : Bool). record c.args.version { secure = secure })
    (c.marking-secure.ensures
    ∙ ap (λ (version : Option MapVersion). marking c.args.request.now.mark version) c.shown.ensures.version) in
    is_not_taken (keeping_of g.D.Disk.history g.D.Disk.faults g.B.Show.log) (request_view c.args.request.now)
    c.args.version c.marked-marked.result c.args.publisher.now c.reopen.new.self c.install.new.self c.in-Ok.ensures.opened marked_is
    c.in-Err-install.fault c.of_install.result c.of_install.ensures c.in-Err-install.ensures.refused
