use Rattle.std.proofs.Common.{◌≡◌, ℕ, List, Option, Ok, Err, refl, sym, ap, subst}
use Rattle.yp_messages.specs.declared.transfer.XfrStat.{XfrStat}
use Rattle.yp_io.specs.Streams.{AppendsFront}
use Rattle.std.specs.Io.KnownBytes.{Appends}
use Rattle.yp_client.specs.Questions.{ByteQuestion, bytes_of}
use Rattle.yp_client.specs.declared.query.fault.QueryFault.{QueryFault}
use Rattle.yp_client.specs.declared.query.fault.QueryFault.TheVariants.{NotDone, Output, NoMemory}
use Rattle.yp_client.specs.query.Lines.{line}
use Rattle.yp_client.specs.query.Scenes.{Prints, refusal_text}
use Rattle.yp_client.proofs.query.print.print_refusal.Goals as goal

module _ (question : ByteQuestion) (text : List ℕ) (status : XfrStat) (same : refusal_text question status ≡ line text)
    (before after : Option (List ℕ)) where
  -- the line was printed
  printed : Appends before after (line text)
      → Prints question (Err (NotDone status)) (Err (NotDone status)) before after
  printed h = (refl, subst (λ (t : List ℕ). Appends before after t) (sym same) h)

  -- or it wasn't, or in part
  stopped : (fault : QueryFault) → Prints question (Ok (line text)) (Err fault) before after
      → Prints question (Err (NotDone status)) (Err fault) before after
  stopped Output h = subst (λ (t : List ℕ). AppendsFront t before after) (sym same) h
  stopped NoMemory h = h
  stopped fault h = absurd (let e = h.0 in cc)

pub returns-in-Ok-clause-prints : goal.returns-in-Ok-clause-prints
returns-in-Ok-clause-prints g c =
    let question = bytes_of c.args.question.now in
    printed question c.in-Some.text.items c.args.stat (rw c.in-Some.is at c.in_ok-text.ensures) _ _ (c.in-Ok.ensures.prints question)

pub returns-clause-prints : goal.returns-clause-prints
returns-clause-prints g c =
    let question = bytes_of c.args.question.now in
    stopped question c.in-Some.text.items c.args.stat (rw c.in-Some.is at c.in_ok-text.ensures) _ _ c.in-Err.fault
    (c.in-Err.ensures.prints question)
