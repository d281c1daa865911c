-- The lazy list is a set of sorted lists whose callers decide their own calls.
use Rattle.list_facts.specs.ClosedLists.{IsListSet}
use Rattle.list_facts.proofs.ListEnds.{any_fits}
use Rattle.lazy_facts.specs.Lazy.{lazy_flags, lazy}

pub lazy_lists : IsListSet lazy
lazy_lists = record { fits = λ setup x fits. any_fits lazy_flags fits.lists; told = λ setup x h told. told.list; unhelped = λ none. none }
