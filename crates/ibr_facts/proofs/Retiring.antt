-- A record is retired with its owner's last reading as its stamp.
use Rattle.std.proofs.Common.{◌≡◌, ℕ, ◌+◌, ◌<◌, List, [], sym, ap, ◌∙◌, subst, arith, ⊎_elim, inl, inr}
use Rattle.atomic_table.proofs.Lists.{at_set}
use Rattle.record_memory.specs.declared.books.Setup.{Setup}
use Rattle.record_memory.specs.declared.books.Guard.{Guard}
use Rattle.row_words.specs.Refs.{RefParts, refer}
use Rattle.record_rule.specs.Inputs.{SchemeCell, unretired, limbo, SchemeInput}
use Rattle.record_rule.specs.Facts.{At}
use Rattle.record_rule.specs.Laws.{with_cell}
use Rattle.record_rule.proofs.Lists.{each_set, one_at}
use Rattle.guard_facts.specs.Announcing.{reading}
use Rattle.ibr_facts.specs.Intervals.{MeetsGuard, Has, EndsMiss, IsBornBy}
use Rattle.ibr_facts.specs.Keeping.{IbrCovered}
use Rattle.ibr_facts.proofs.Meeting.{meets_set, nothing_missed}

-- who has the record meets it still: its lower end is at most that reading. No scan of the owner's is on, which could have passed by it
pub puts_so : (setup : Setup) (x : SchemeInput) (i d generation b n stamp : ℕ) (g : Guard) → IbrCovered setup x → At x.cells i (unretired d generation b n) → At x.guards d g → stamp ≡ reading g 0 → n < g.reading_taken_out → g.loaded ≡ []
    → IbrCovered setup (with_cell x i (limbo d generation b n stamp x.epoch))
puts_so setup x i d generation b n stamp g h at mine is late idle = let new : SchemeCell = limbo d generation b n stamp x.epoch in (
  λ e k there. let f = h.0 e k there in
      let meets : (t : RefParts) → Has k t → MeetsGuard x k t → MeetsGuard (with_cell x i new) k t = (λ t has m. meets_set x i (unretired d generation b n) new k t at
      (λ a z s. (
        a,
        (
          z,
          let name : t ≡ refer (i + 1) generation = (let pos = m.1 in λ j. record { index = (let q : t.index ≡ i + 1 = omega arith in q) j; generation = sym a.0 j }) in
              let low = f.stamped d i generation b n g at mine late (subst (Has k) name has) in omega arith,
        ),
      )) m) in record {
        lower = f.lower;
        upper = f.upper;
        top = f.top;
        limit = f.limit;
        read = f.read;
        outside = f.outside;
        holds = λ t e. meets t (inl e) (f.holds t e);
        waits = λ p t e. let w = f.waits p t e in (w.0, ⊎_elim inl (λ y. inr (meets t (inr (p, e)) y)) w.1);
        stamped = λ c j a q m o cell. f.stamped c j a q m o (⊎_elim (λ p. let none : ⊥ = (let z = p.1 in cc) in absurd none) (λ p. p.1) (at_set x.cells i j new (unretired c a q m) cell));
        scan = λ j a q m s r c o cell caller misses. ⊎_elim
            (λ p. let same : d ≡ e = (let z = p.1 in cc) in let k_is : g ≡ k = one_at x.guards e g k (subst (λ (z : ℕ). At x.guards z g) same mine) there in
            nothing_missed c q s (subst (λ (l : List ℕ). EndsMiss l c q s) (sym (ap (λ (z : Guard). z.loaded) k_is) ∙ idle) misses))
            (λ p. f.scan j a q m s r c o p.1 caller misses) (at_set x.cells i j new (limbo e a q m s r) cell);
      },
  each_set (λ j c. IsBornBy c x.epoch) x.cells i new h.1 (h.1 i (unretired d generation b n) at),
)
