use Rattle.std.proofs.Common.{Bool, ap, sym, ◌∙◌, subst, arith}
use Rattle.record_memory.specs.declared.books.Setup.{Setup}
use Rattle.record_memory.specs.declared.books.Book.{Book}
use Rattle.record_memory.specs.declared.books.Standing.TheVariants.{Free, Spare}
use Rattle.record_table.specs.Handles.{view, since}
use Rattle.manager.proofs.Empty.{empty_chain}
use Rattle.manager.proofs.Seats.{fresh_idle, fresh_away, fresh_counted}
use Rattle.manager.proofs.making.seat.Goals as goal

pub returns-clause-caller : goal.returns-clause-caller
returns-clause-caller g c = let f = c.requires.fresh.2 in let v = view c.args.pass in record {
  outside = c.requires.outside;
  chains = record {
    local = subst (λ (b : Bool). g.R.Scheme.is_local c.local-local.result b (since c.args.pass) v) (sym c.requires.outside) (c.local-local.ensures v (since c.args.pass) (sym c.caller.ensures) (ap (λ (k : Setup). k.callers) f.setup_is ∙ sym c.callers.ensures.callers) (ap (λ (b : Book). b.guard) f.own) (ap (λ (b : Book). b.steps) f.own) (ap (λ (b : Book). b.moves) f.own) (fresh_away _ _ _ v f));
    frees = empty_chain Free v _ c.new.ensures.head c.new.ensures.count;
    spares = empty_chain Spare v _ c.new-2.ensures.head c.new-2.ensures.count;
    all = let i = fresh_idle _ _ _ v f in let a = c.new.ensures.count in let b = c.new-2.ensures.count in omega arith;
  };
  counts = fresh_counted _ _ _ v f;
  unlocked = ap (λ (b : Book). b.locks) f.own;
}

pub local-local-requires-clause-caller : goal.local-local-requires-clause-caller
local-local-requires-clause-caller g c = let f = c.requires.fresh.2 in let lt = c.requires.fresh.1 in let own = ap (λ (b : Book). b.caller) f.own in let is = c.caller.ensures in let all = c.callers.ensures.callers in omega arith
