-- How 2GEIBR scans: both ends of each caller in order, and then what no interval meets goes.
use Rattle.std.proofs.Common.{[], ◌∷◌, ◌++◌, length, Bool, cond, refl, ap}
use Rattle.std.proofs.lemmas.Bool.{eq-eqb}
use Rattle.record_memory.specs.declared.books.Setup.{Setup}
use Rattle.ibr_facts.specs.Keeping.{ibr}
use Rattle.reclaim_api.proofs.Scanning.{ScansBy}
use Rattle.reclaim_ibr.specs.Meeting.{is_unmet}
use Rattle.reclaim_ibr.specs.Retiring.{ends_of, scan_word}

pub ibr_scans : (setup : Setup) → ScansBy ibr scan_word is_unmet setup (ends_of setup)
ibr_scans setup = record {
  loads = λ m d g n. ap (λ (b : Bool). cond b (record g { loaded = g.loaded ++ n ∷ [] }) g) (eq-eqb (scan_word (length g.loaded)) (scan_word (length g.loaded)) refl);
  frees_then = λ g x. refl;
  ends = λ g. refl;
}
