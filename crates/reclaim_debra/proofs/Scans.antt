-- A look and a try, one after the other.
use Rattle.std.proofs.Common.{◌≡◌, ℕ, ◌<◌, List, [], ◌∷◌, ◌++◌, append-nil, Bool, true, false, sym, ap, ◌∙◌, subst, arith, inl, inr}
use Rattle.std.specs.Prelude.{IsTrue, ◌↔◌}
use Rattle.std.specs.List.{count_by}
use Rattle.record_memory.specs.declared.steps.Step.{Step}
use Rattle.record_memory.specs.declared.books.Setup.{Setup}
use Rattle.record_memory.specs.declared.books.Book.{Book}
use Rattle.record_memory.specs.declared.books.View.{View}
use Rattle.record_rule.specs.Kinds.{is_idle, idle}
use Rattle.reclaim_api.specs.StepForms.{epoch_exchange}
use Rattle.reclaim_debra.specs.Running.{Tries, no_try, one_try}
use Rattle.reclaim_debra.specs.Entering.{IsTry, HasTried, HasLooked, HasScanned}

-- as many are idle where the same is known of each record
pub same_idle : (b c : Book) → c.mine ≡ b.mine → idle c ≡ idle b
unfolding idle
same_idle b c e = ap (count_by is_idle) e

-- one try
tries_as : (setup : Setup) (v u : View) (e before after : ℕ) (tried : List Step) → u.own.mine ≡ v.own.mine → before < setup.callers → after ≡ setup.callers → IsTry u e tried → Tries setup v.own e before after tried
tries_as setup v u e before after tried mine lt all (inl p) = subst (Tries setup v.own e before after) (sym (p.1.1 ∙ ap (λ (n : ℕ). record (epoch_exchange v.own e p.1.0) { idle = n } ∷ []) (same_idle v.own u.own mine))) (one_try (lt, all, p.0) p.1.0)
tries_as setup v u e before after tried mine lt all (inr p) = subst (Tries setup v.own e before after) (sym p.1) (no_try (λ h. let z = h.2 in let y = p.0 in omega arith))

module _ (setup : Setup) (v u : View) (e before after : ℕ) (result : Bool) (last : IsTrue result ↔ ((before < setup.callers) × (after ≡ setup.callers))) (looked : HasLooked setup v e before after u) where
  -- the scan reached the end, and the epoch was tried
  pub scanned_all : (w : View) → u.own.mine ≡ v.own.mine → result ≡ true → HasTried u e w → HasScanned setup v e before after w
  scanned_all w mine is tried = let all = last.0 is in record {
    place = tried.guard ∙ looked.place;
    looked = looked.looked;
    looks = looked.looks;
    tried = tried.tried;
    tries = tries_as setup v u e before after tried.tried mine all.0 all.1 tried.try;
    steps = tried.steps ∙ ap (λ (l : List Step). l ++ tried.tried) looked.steps;
  }

  -- or not, and it wasn't
  pub scanned_some : result ≡ false → HasScanned setup v e before after u
  scanned_some is = record {
    place = looked.place;
    looked = looked.looked;
    looks = looked.looks;
    tried = [];
    tries = no_try (λ h. let t = last.1 (h.0, h.1) in let none : ⊥ = cc in none);
    steps = looked.steps ∙ sym (append-nil (v.own.steps ++ looked.looked));
  }
