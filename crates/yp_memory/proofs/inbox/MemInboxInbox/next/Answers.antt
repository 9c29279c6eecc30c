use Rattle.std.proofs.Common.{rules, ◌≡◌, ◌∙◌, ◌+◌, ◌++◌, ◌∷◌, [], ℕ, List, ap, subst, refl, map, min, length}
use Rattle.std.proofs.lemmas.List.{map-append}
use Rattle.yp_io.specs.declared.dial.Letter.{Letter}
use Rattle.yp_memory.specs.declared.inbox.Step.TheVariants.{Brought}
use Rattle.yp_io.specs.Inboxes.{InboxEvent, Arrived, HoldsFront}
use Rattle.yp_memory.specs.inside.MemInbox.{MemInboxModel, post_of, turns_behind}
use Rattle.yp_memory.proofs.Waiting.{goes_on}
use Rattle.yp_memory.proofs.inbox.MemInboxInbox.next.Goals as goal

pub returns-in-Some-clause-turn : goal.returns-in-Some-clause-turn
returns-in-Some-clause-turn c =
    let letter = c.in-Some.letter.now in
    let holds : HoldsFront letter.bytes.items c.fill-len.result c.fill-len.new.buf =
    subst (λ (l : List ℕ). HoldsFront l c.fill-len.result c.fill-len.new.buf) c.deref-in-Some.ensures.value c.fill-len.ensures in
    let event = λ (l : Letter). Arrived l.peer l.bytes.items in
    let before : map post_of c.self.inside.past ≡ c.args.self.now.past = search rules in (
      event letter,
      (refl, holds),
      ap (map post_of) c.push.ensures
          ∙ map-append post_of c.self.inside.past (Brought c.of.result ∷ [])
          ∙ ap (λ (events : List InboxEvent). events ++ event c.of.result.value ∷ []) before
          ∙ ap (λ (l : Letter). c.args.self.now.past ++ event l ∷ []) c.of.ensures,
    )

pub returns-in-Some-clause-waiting : goal.returns-in-Some-clause-waiting
returns-in-Some-clause-waiting c =
    let count : c.min-self-inside.result ≡ min (length c.self.inside.mail.items) (c.self.inside.at + 1) = search rules in
    goes_on c.self.inside.mail.items c.self.inside.at c.min-self-inside.result count
    ∙ ap (λ (b : MemInboxModel). turns_behind b.waiting) c.self.view_is

pub returns-in-None-clause-waiting : goal.returns-in-None-clause-waiting
returns-in-None-clause-waiting c =
    let count : c.min-self-inside.result ≡ min (length c.self.inside.mail.items) (c.self.inside.at + 1) = search rules in
    goes_on c.self.inside.mail.items c.self.inside.at c.min-self-inside.result count
    ∙ ap (λ (b : MemInboxModel). turns_behind b.waiting) c.self.view_is
