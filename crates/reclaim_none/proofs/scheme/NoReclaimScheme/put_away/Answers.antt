use Rattle.std.proofs.Common.{arith, ◌≢◌, ℕ, ◌+◌, refl, ◌∙◌, ap, sym, subst}
use Rattle.record_memory.specs.declared.books.Setup.{Setup}
use Rattle.record_memory.specs.declared.books.View.{View}
use Rattle.record_memory.specs.declared.books.Standing.TheVariants.{Free, TakenOut}
use Rattle.row_words.specs.Packing.{packed_number}
use Rattle.record_rule.specs.Kinds.{idle}
use Rattle.record_rule.specs.Standings.{is_spent}
use Rattle.record_table.specs.Handles.{view}
use Rattle.reclaim_api.specs.Frames.{had, IsLimboLeft, LeavesRestBut}
use Rattle.reclaim_api.proofs.Kept.{Stays, chain_stays, retired_keeps, retired_leaves, retired_idle, retired_limbo, retired_spent}
use Rattle.reclaim_api.proofs.Keeping.{keeps_same}
use Rattle.reclaim_none.proofs.scheme.NoReclaimScheme.put_away.Goals as goal

pub returns-clause-free : goal.returns-clause-free
returns-clause-free g c = let s = c.put_row.ensures.step in let v : View = view c.args.pass.now in let other : Free ≢ TakenOut = λ e. (let none : ⊥ = cc in none) in
    chain_stays Free v (view c.put_row.new.pass) (ap (λ (k : Setup). k.records) c.put_row.ensures.pass.setup)
    (subst (Stays Free v) (sym s.2) (retired_keeps v c.args.taken s.0 (packed_number c.args.taken.generation 0) s.1 Free other)) c.args._free.now c.requires.free

pub returns-clause-rest : goal.returns-clause-rest
returns-clause-rest g c = let s = c.put_row.ensures.step in let v : View = view c.args.pass.now in
    subst (LeavesRestBut c.args.taken.index v) (sym s.2) (retired_leaves v c.args.taken s.0 (packed_number c.args.taken.generation 0) s.1)

pub returns-clause-frees : goal.returns-clause-frees
returns-clause-frees g c = let s = c.put_row.ensures.step in let v : View = view c.args.pass.now in
    record {
      idle = ap (λ (w : View). idle w.own + 0) s.2 ∙ ap (λ (n : ℕ). n + 0) (retired_idle v c.args.taken s.0 (packed_number c.args.taken.generation 0) s.1);
      count = refl;
      freed = let e = ap (λ (w : View). w.own.moves.freed) s.2 in omega arith;
      spent = let e = ap (λ (w : View). had is_spent w.own) s.2 in let f = retired_spent v c.args.taken s.0 (packed_number c.args.taken.generation 0) s.1 in omega arith;
      limbo = λ left. subst (λ (w : View). IsLimboLeft w.own) (sym s.2) (retired_limbo v c.args.taken s.0 (packed_number c.args.taken.generation 0) s.1 left);
    }

pub returns-clause-keeps : goal.returns-clause-keeps
returns-clause-keeps g c = let s = c.put_row.ensures.step in let same = c.put_row.ensures.pass in
    keeps_same c.args.pass.now c.put_row.new.pass (ap (λ x. x.value.me.0) same.since) same.setup (ap (λ (w : View). w.own.guard) s.2) (ap (λ (w : View). w.own.notes) s.2) (ap (λ (w : View). w.seen_updates) s.2)
