use Rattle.std.proofs.Common.{◌≡◌, ℕ, List, Bool, true, false, ap, sym, ◌∙◌}
use Rattle.yp_io.specs.Counts.{next_count}
use Rattle.yp_board.specs.Views.{Seen}
use Rattle.yp_answer.specs.declared.procedure.Path.TheVariants.{Stream}
use Rattle.yp_answer.specs.Maps.{Maps, maps_of}
use Rattle.yp_answer.specs.Reply.{asks, reply, reply_at_once}
use Rattle.yp_answer.specs.Answers.{StepsWhere}
use Rattle.yp_command.specs.Words.{nobody}
use Rattle.yp_command_serve.proofs.calls.ask.Goals as goal

-- a read step keeps the maps
maps_kept : (asked : Bool) (old new : Seen)
    → StepsWhere asked (λ (before after : Seen). after ≡ record before { asked = next_count before.asked })
    (λ (board : Seen). board) old new
    → maps_of new ≡ maps_of old
maps_kept true old new step = ap maps_of step.0
maps_kept false old new same = ap maps_of same

pub returns-in-Make-clause-maps : goal.returns-in-Make-clause-maps
returns-in-Make-clause-maps c = maps_kept (asks Stream c.args.call.now) _ _ c.in-Make.ensures.step

pub returns-in-Make-clause-reply : goal.returns-in-Make-clause-reply
returns-in-Make-clause-reply c =
    let call = c.args.call.now in
    ap (λ (maps : Maps). reply_at_once (reply Stream maps nobody call))
    (sym (maps_kept (asks Stream call) _ _ c.in-Make.ensures.step))
    ∙ ap reply_at_once c.in-Make.ensures.reply.left_open
