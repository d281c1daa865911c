-- From a fact of a result to another.
use Rattle.std.proofs.Common.{Result, Ok, Err, IfOk}

pub IfOk-map : {A E : Type 0} {P Q : A → Type 0} (result : Result A E) → ((x : A) → P x → Q x) → IfOk result P → IfOk result Q
IfOk-map (Ok x) f p = f x p
IfOk-map (Err e) f p = tt
