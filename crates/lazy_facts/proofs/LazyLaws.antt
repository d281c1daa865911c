-- The lazy list keeps its facts.
use Rattle.std.proofs.Common.{◌≡◌, ℕ, ◌-◌, ◌<◌, inl, inr, List, [], ◌∷◌, ◌++◌, length, set, Option, Some, None, refl, sym, ap, subst, arith}
use Rattle.set_model.specs.declared.names.SetName.{SetName}
use Rattle.row_words.specs.Refs.{RefParts, LinkParts, IsRef}
use Rattle.row_words.specs.Packing.{IsLink}
use Rattle.record_memory.specs.declared.books.Setup.{Setup}
use Rattle.record_memory.specs.declared.books.Note.{Note}
use Rattle.record_rule.specs.Inputs.{hidden, linked, out, ShapeInput, Trace}
use Rattle.record_rule.specs.Facts.{At, with_link, HasMark, clean, Near, at_held, FitsNear, FitsNext, IsLegalUpdate}
use Rattle.record_rule.specs.Laws.{NodeStep, update_by, NodeIs, IsNewGeneration, Given, Keeps, relinked, ShapeLaws}
use Rattle.list_facts.specs.Steps.{MayMark, MayPublish, MayUnlink}
use Rattle.list_facts.proofs.Bodies.{clear_flags, is_unsettled, stays_settled}
use Rattle.list_facts.proofs.Nodes.{clean_link}
use Rattle.list_facts.proofs.Turning.{reaches, not_itself}
use Rattle.list_facts.proofs.Frozen.{leads_from, follows_behind}
use Rattle.list_facts.proofs.Marking.{call_is, mark_legal}
use Rattle.list_facts.proofs.Publishing.{publish_legal}
use Rattle.list_facts.proofs.Walking.{list_walks, list_reads}
use Rattle.lazy_facts.specs.Lazy.{MayTurn, lazy}
use Rattle.lazy_facts.proofs.Absences.{absences_begin}
use Rattle.lazy_facts.proofs.Relocking.{relocks}
use Rattle.lazy_facts.proofs.Marking.{lazy_marks}
use Rattle.lazy_facts.proofs.Publishing.{lazy_publishes}
use Rattle.lazy_facts.proofs.Unlinking.{lazy_unlinks}
use Rattle.lazy_facts.proofs.Openings.{lazy_opening, lazy_hiding}
use Rattle.lazy_facts.proofs.Shows.{lazy_shows}
use Rattle.lazy_facts.proofs.Unlocked.{locked_stands, published_unlocked, taken_out_unlocked, left_unlocked}
use Rattle.std.proofs.lemmas.Bool.{eqb-true}

module _ (setup : Setup) (x : ShapeInput) (h : Trace) (t : NodeStep) (given : Given lazy setup x h) (n : NodeIs lazy x.cells t.near t.field t.old) where
  -- the table once the node's link was left
  abbrev left : LinkParts → ShapeInput
  left new = record x { cells = set x.cells n.index (relinked lazy x.cells t.near t.field t.old n new (length h.updates)) }

  -- a lock is taken or taken off
  relock_keeps : (new : LinkParts) → IsLink new → t.field ≡ 3 → ¬ HasMark t.old → ¬ HasMark new → new.target ≡ t.old.target → new.flags < 3 → t.call ≡ None → Keeps lazy setup x h t.near t.field t.old n new (update_by t) (left new)
  relock_keeps new in_range field old_clear new_clear same flagged none = let clear = clean_link n field old_clear in record {
    stands = rw none (relocks given.1.0 given.1.1 n in_range field old_clear new_clear same flagged);
    legal = rw none tt;
    unsettled = is_unsettled n.body t.field field clear;
    settled = λ g. stays_settled n.body (with_link n.body t.field n.generation new) g clear;
    known = λ start k e. tt;
  }

  -- a lock becomes the mark
  mark_keeps : (new : LinkParts) → IsLink new → MayMark 2 setup t.near t.field t.old new t.call → Keeps lazy setup x h t.near t.field t.old n new (update_by t) (left new)
  mark_keeps new in_range may = let fits = given.1.0.lists in let list = given.1.1.list in let clear = clean_link n may.0 (clear_flags t.old 2 refl may.3) in record {
    stands = lazy_marks given.1.0 given.1.1 given.2 n in_range may t.caller t.number;
    legal = subst (λ (z : SetName). IsLegalUpdate z h.updates (update_by t)) (sym given.3) (rw (call_is fits list n in_range 2 refl may) (mark_legal fits list n in_range 2 refl may t.caller t.number));
    unsettled = is_unsettled n.body t.field may.0 clear;
    settled = λ g. stays_settled n.body (with_link n.body t.field n.generation new) g clear;
    known = λ start k e. tt;
  }

  turn_keeps : (new : LinkParts) → IsLink new → MayTurn setup t.near t.field t.old new t.call → Keeps lazy setup x h t.near t.field t.old n new (update_by t) (left new)
  turn_keeps new in_range (inl may) = let flags = ap (λ (l : LinkParts). l.flags) may.2 in
      relock_keeps new in_range may.0 (clear_flags t.old 0 refl may.1) (clear_flags new 2 refl flags) (ap (λ (l : LinkParts). l.target) may.2) (omega (arith, flags)) may.3
  turn_keeps new in_range (inr (inl may)) = let flags = ap (λ (l : LinkParts). l.flags) may.2 in
      relock_keeps new in_range may.0 (clear_flags t.old 2 refl may.1) (clear_flags new 0 refl flags) (ap (λ (l : LinkParts). l.target) may.2) (omega (arith, flags)) may.3
  turn_keeps new in_range (inr (inr may)) = mark_keeps new in_range may

  -- an own record is linked
  publish_keeps : (own : RefParts) (body : List ℕ) (marked : ℕ) (next : Option Near) → FitsNext lazy x.cells t.old.target next → At x.cells (own.index - 1) hidden → IsRef own → IsNewGeneration lazy x.taken_out own → MayPublish 2 setup t.near t.field t.old body next t.call
      → Keeps lazy setup x h t.near t.field t.old n (clean own) (update_by t)
      (record x { cells = set (set x.cells (own.index - 1) (linked own.generation body marked)) n.index (relinked lazy x.cells t.near t.field t.old n (clean own) (length h.updates)) })
  publish_keeps own body marked next fits_next free ref name may = let fits = given.1.0.lists in let list = given.1.1.list in let clear = clean_link n may.field (clear_flags t.old 2 refl may.flags_are) in record {
    stands = lazy_publishes given.1.0 given.1.1 given.0 n fits_next may free ref name marked t.caller t.number;
    legal = subst (λ (z : SetName). IsLegalUpdate z h.updates (update_by t)) (sym given.3) (rw may.decides (publish_legal fits list n 2 refl fits_next may t.caller t.number));
    unsettled = is_unsettled n.body t.field may.field clear;
    settled = λ g. stays_settled n.body (with_link n.body t.field n.generation (clean own)) g clear;
    known = λ start k e. tt;
  }

  -- a marked record is taken out
  unlink_keeps : (gone : RefParts) (note : Note) (new : LinkParts) (i generation m : ℕ) (body : List ℕ) → t.old.target ≡ Some gone → FitsNear lazy x.cells (at_held gone note) i generation body m → IsLink new
      → (t.old.flags ≡ 2) × MayUnlink setup t.near t.field (at_held gone note) new × (t.call ≡ None)
      → Keeps lazy setup x h t.near t.field t.old n new (update_by t)
      (record x { cells = set (set x.cells i (out generation body m (length x.taken_out))) n.index (relinked lazy x.cells t.near t.field t.old n new (length h.updates)); taken_out = x.taken_out ++ gone ∷ [] })
  unlink_keeps gone note new i generation m body to held in_range may = let old_clear = clear_flags t.old 2 refl may.0 in let clear = clean_link n may.1.0 old_clear in record {
    stands = rw may.2 (lazy_unlinks given.1.0 given.1.1 given.0 n to old_clear held in_range may.1);
    legal = rw may.2 tt;
    unsettled = is_unsettled n.body t.field may.1.0 clear;
    settled = λ g. stays_settled n.body (with_link n.body t.field n.generation new) g clear;
    known = λ start k e. tt;
  }

-- all of a set's laws
pub lazy_laws : ShapeLaws lazy
lazy_laws = record {
  starts = λ setup h some fit none. lazy_opening setup h none;
  walks = λ setup x h given body t on step. list_walks given.1.0.lists body t on step;
  reads = λ setup x h given roots. list_reads given.1.0.lists roots given.1.1.list;
  keys_stand = λ setup x near f l fits n. refl;
  reaches = λ setup x near f l t fits n hold clear e. reaches fits.lists n hold clear t e;
  exchanges = λ setup x h t new given n in_range may. turn_keeps setup x h t given n new in_range may;
  locks = λ setup x t new fits n may lockable free lock generation m k body is. locked_stands fits n may free lock generation m k body is;
  comes_unlocked = λ setup x t body next n may g lockable low. published_unlocked n may g (eqb-true g 3 lockable);
  goes_unlocked = λ setup x t gone note new next i generation m body fits held in_range may g lockable low. taken_out_unlocked held in_range may.1.1 g (eqb-true g 3 lockable);
  leaves_unlocked = λ setup t gone note new next may lockable. left_unlocked new may.1.2;
  publishes = λ setup x h t own body marked next given n fits_next free ref long name may. publish_keeps setup x h t given n own body marked next fits_next free ref name may;
  gone_linked = λ setup x t gone note new next fits n to may. let clear = clear_flags t.old 2 refl may.0 in (reaches fits.lists n may.1.0 clear gone to, not_itself fits.lists n may.1.0 clear gone to);
  unlinks = λ setup x h t gone note new next i generation m body given n to held behind in_range may. unlink_keeps setup x h t given n gone note new i generation m body to held in_range may;
  follows = λ setup x h near f l start c kept t given n at behind known may to. follows_behind x (leads_from given.1.0.lists n may t to) behind;
  hides = λ setup x h cells given hid. record { stands = lazy_hiding x h cells hid setup given.1.0 given.1.1; known = λ start k e. tt };
  shows = λ setup x h near f l start c target given n at seen late. lazy_shows given.1.0 given.1.1 n seen start c at late;
  nothing = λ setup x updates start r. tt;
  -- a guard may start at any step
  begins = λ setup x h c given. let list = given.1.1.list in record {
    list = record { keys = list.keys; marks = list.marks; alone = list.alone; balance = list.balance };
    absences = absences_begin lazy given.1.0.lists list given.0 given.1.1.absences c;
  };
}
