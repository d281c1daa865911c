use Rattle.std.proofs.Common.{◌≡◌, ap, sym, subst, refl, arith}
use Rattle.record_memory.specs.declared.books.Setup.{Setup}
use Rattle.record_memory.specs.declared.books.Share.{Share}
use Rattle.record_memory.specs.declared.books.View.{View}
use Rattle.row_words.specs.Refs.{RefParts, LinkParts, IsRef}
use Rattle.row_words.specs.Packing.{packed_number}
use Rattle.record_rule.specs.ChainRows.{IsAway, OwnsAway}
use Rattle.record_rule.specs.Links.{from_root, HasTaken, retired, UnlinkedRecord}
use Rattle.list_facts.specs.Michael.{michael}
use Rattle.row_words.specs.contracts.links.Link.{the_view as the_link}
use Rattle.record_table.specs.Handles.{view}
use Rattle.reclaim_api.proofs.Retiring.{retired_as}
use Rattle.table_tests.proofs.Holding.{taken_now}
use Rattle.table_tests.proofs.lists.take_out.Goals as goal

pub put_row-retired-requires-clause-taken : goal.put_row-retired-requires-clause-taken
put_row-retired-requires-clause-taken c = let setup = ap (λ (k : Setup). k.records) c.requires.pass.setup in let rooted = c.args.table.now.numbers.rooted in let one = c.requires.roots in let new : LinkParts = c.clean-new.result in
    let t = taken_now (view c.args.pass.now) (view c.unlink.new.pass) (from_root 0) c.in-Ok.taken new (omega arith)
    (subst (λ (r : RefParts). UnlinkedRecord michael (view c.args.pass.now) (from_root 0) 3 r new (view c.unlink.new.pass)) (sym c.in-Ok.ensures.step.0) c.in-Ok.ensures.step.1) in (t.0, t.1, refl)

-- what was retired is in limbo
away_now : (v w : View) (r q : RefParts) (h : Share) → HasTaken v r h → w ≡ retired v r h 0 → q ≡ r → IsRef q → OwnsAway w q
away_now v w r q h taken is same in_range = subst (OwnsAway w) (sym same) (subst (λ (x : View). OwnsAway x r) (sym is) (let a = retired_as v r h (packed_number r.generation 0) taken (subst IsRef same in_range) in record { owns = a.owns; away = subst IsAway (sym a.standing_is) tt }))

pub returns-clause-away : goal.returns-clause-away
returns-clause-away c = let s = c.put_row-retired.ensures.step in away_now (view c.unlink.new.pass) (view c.put_row-retired.new.pass) c.in-Ok.taken c.put_row-retired.result s.0 s.1 s.2 c.put_row-retired.ensures.record (subst IsRef c.retired.view_is c.retired.invariant)
