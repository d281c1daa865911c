use Rattle.std.proofs.Common.{ℕ, List, ap, ◌∙◌, eqb}
use Rattle.std.specs.List.{list_any}
use Rattle.reclaim_hazard.proofs.Scanning.{any_named}
use Rattle.reclaim_hazard.proofs.naming.NamedKeeps.keeps.Goals as goal

pub returns : goal.returns
returns c = c.contains.ensures.value ∙ ap (λ (l : List ℕ). list_any (λ (v : ℕ). eqb v c.pack_ref.result) l) c.deref.ensures.0
    ∙ ap (λ (n : ℕ). list_any (λ (v : ℕ). eqb v n) c.args.self.now.words.now.items) c.pack_ref.ensures.number ∙ any_named c.args.r c.args.self.now.words.now.items
