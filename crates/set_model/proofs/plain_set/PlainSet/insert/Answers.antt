use Rattle.std.proofs.Common.{◌<◌, not, sym, ap, ◌∙◌, subst, arith}
use Rattle.set_model.specs.Keys.{size_of}
use Rattle.set_model.specs.KeysWithRoom.{KeysWithRoom}
use Rattle.set_model.specs.Rising.{StandsAt, BelongsAt}
use Rattle.set_model.proofs.KeySets.{insert_present, size_of-from_list}
use Rattle.set_model.proofs.RisingKeys.{present_at, absent_at, IsRising-insert, from_list-insert, IsDistinct-from_rising}
use Rattle.set_model.proofs.plain_set.PlainSet.insert.Goals as goal

pub unwrap-requires : goal.unwrap-requires
unwrap-requires c =
    let room = subst (λ (set : KeysWithRoom). size_of set.keys < set.room) (sym c.self.view_is) c.requires in
    c.insert.ensures.succeeds (omega (arith, size_of-from_list c.self.inside.sorted.items (IsDistinct-from_rising _ c.self.invariant)))

pub invariant_of-self : goal.invariant_of-self
invariant_of-self c =
    let place = subst (λ keys. BelongsAt keys c.args.key c.in-Err.place) c.deref.ensures.value c.in-Err.ensures.absent in
    rw (c.insert.ensures.items, c.unwrap.ensures) (IsRising-insert c.self.inside.sorted.items c.args.key c.in-Err.place c.self.invariant place)

pub returns-in-Ok-clause-answer : goal.returns-in-Ok-clause-answer
returns-in-Ok-clause-answer c =
    let place = subst (λ keys. StandsAt keys c.args.key c.in-Ok.field-0) c.deref.ensures.value c.in-Ok.ensures.found in
    rw (← c.self.view_is) (ap not (sym (present_at c.self.inside.sorted.items c.args.key c.in-Ok.field-0 place)))

pub returns-in-Ok-clause-keys : goal.returns-in-Ok-clause-keys
returns-in-Ok-clause-keys c =
    let place = subst (λ keys. StandsAt keys c.args.key c.in-Ok.field-0) c.deref.ensures.value c.in-Ok.ensures.found in
    rw (← c.self.view_is) (sym (insert_present _ _ (present_at c.self.inside.sorted.items c.args.key c.in-Ok.field-0 place)))

pub returns-in-Err-clause-answer : goal.returns-in-Err-clause-answer
returns-in-Err-clause-answer c =
    let place = subst (λ keys. BelongsAt keys c.args.key c.in-Err.place) c.deref.ensures.value c.in-Err.ensures.absent in
    rw (← c.self.view_is) (ap not (sym (absent_at c.self.inside.sorted.items c.args.key c.in-Err.place place)))

pub returns-in-Err-clause-keys : goal.returns-in-Err-clause-keys
returns-in-Err-clause-keys c =
    rw (c.insert.ensures.items, c.unwrap.ensures, ← c.self.view_is) (from_list-insert c.self.inside.sorted.items c.in-Err.place c.args.key)

pub returns-in-Err-clause-room : goal.returns-in-Err-clause-room
returns-in-Err-clause-room c =
    let room = subst (λ (set : KeysWithRoom). size_of set.keys < set.room) (sym c.self.view_is) c.requires in
    (c.insert.ensures.in_place (omega (arith, size_of-from_list c.self.inside.sorted.items (IsDistinct-from_rising _ c.self.invariant)))).1.0 ∙ ap (λ set. set.room) c.self.view_is
