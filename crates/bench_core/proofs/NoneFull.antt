-- Replies of which none is full.
use Rattle.std.proofs.Common.{◌≡◌, ◌≢◌, false, List, [], ◌∷◌, sym}
use Rattle.std.specs.List.{AllByRecursion}
use Rattle.std.proofs.lemmas.Bool.{false≢true}
use Rattle.std.proofs.lemmas.List.Elements.{All-from_recursion}
use Rattle.set_model.specs.declared.calls.Reply.{Reply}
use Rattle.set_model.specs.declared.calls.Reply.TheVariants.{Yes, No, Full}
use Rattle.run_facts.specs.Unshared.{NoneIsFull}
use Rattle.bench_core.specs.Ending.{any_full}

each_found : (replies : List Reply) → any_full replies ≡ false → AllByRecursion (λ reply. reply ≢ Full) replies
each_found [] none = tt
each_found (Yes ∷ replies) none = ((λ e. cc), each_found replies none)
each_found (No ∷ replies) none = ((λ e. cc), each_found replies none)
each_found (Full ∷ replies) none = absurd (false≢true (sym none))

pub none_is_full : (replies : List Reply) → any_full replies ≡ false → NoneIsFull replies
none_is_full replies none = All-from_recursion (λ (reply : Reply). reply ≢ Full) replies (each_found replies none)
