use Rattle.std.proofs.Common.{sym, ap, ◌∙◌, subst}
use Rattle.set_model.specs.Keys as keyset
use Rattle.set_model.specs.Keys.{contains, from_list}
use Rattle.set_model.specs.Rising.{StandsAt, BelongsAt}
use Rattle.set_model.proofs.KeySets.{remove_absent}
use Rattle.set_model.proofs.RisingKeys.{present_at, absent_at, IsRising-remove, from_list-remove}
use Rattle.set_model.proofs.plain_set.PlainSet.remove.Goals as goal

pub invariant_of-self : goal.invariant_of-self
invariant_of-self c = rw c.remove.ensures.items (IsRising-remove c.self.inside.sorted.items c.in-Ok.place c.self.invariant)

pub returns-in-Ok-clause-answer : goal.returns-in-Ok-clause-answer
returns-in-Ok-clause-answer c =
    let place = subst (λ keys. StandsAt keys c.args.key c.in-Ok.place) c.deref.ensures.value c.in-Ok.ensures.found in
    rw (← c.self.view_is) (sym (present_at c.self.inside.sorted.items c.args.key c.in-Ok.place place))

pub returns-in-Ok-clause-keys : goal.returns-in-Ok-clause-keys
returns-in-Ok-clause-keys c =
    let place = subst (λ keys. StandsAt keys c.args.key c.in-Ok.place) c.deref.ensures.value c.in-Ok.ensures.found in
    rw (c.remove.ensures.items, ← c.self.view_is)
    (from_list-remove c.self.inside.sorted.items c.in-Ok.place c.self.invariant place.within ∙ ap (keyset.remove (from_list c.self.inside.sorted.items)) place.is)

pub returns-in-Err-clause-answer : goal.returns-in-Err-clause-answer
returns-in-Err-clause-answer c =
    let place = subst (λ keys. BelongsAt keys c.args.key c.in-Err.field-0) c.deref.ensures.value c.in-Err.ensures.absent in
    rw (← c.self.view_is) (sym (absent_at c.self.inside.sorted.items c.args.key c.in-Err.field-0 place))

pub returns-in-Err-clause-keys : goal.returns-in-Err-clause-keys
returns-in-Err-clause-keys c =
    let place = subst (λ keys. BelongsAt keys c.args.key c.in-Err.field-0) c.deref.ensures.value c.in-Err.ensures.absent in
    rw (← c.self.view_is) (sym (remove_absent _ _ (absent_at c.self.inside.sorted.items c.args.key c.in-Err.field-0 place)))
