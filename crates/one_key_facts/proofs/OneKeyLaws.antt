-- The set of at most one key per root keeps its facts: the laws, one by one.
use Rattle.std.proofs.Common.{◌≡◌, ◌≢◌, ℕ, ◌-◌, List, [], ◌∷◌, ◌++◌, length, set, Option, Some, None, refl, ap, sym, ◌∙◌, subst}
use Rattle.set_model.specs.declared.calls.Call.{Call}
use Rattle.set_model.specs.declared.names.SetName.{SetName}
use Rattle.row_words.specs.Refs.{RefParts, LinkParts, IsRef}
use Rattle.row_words.specs.Packing.{IsLink}
use Rattle.record_memory.specs.declared.books.Setup.{Setup}
use Rattle.record_memory.specs.declared.books.Note.{Note}
use Rattle.record_rule.specs.Inputs.{hidden, linked, out, ShapeInput, Trace}
use Rattle.record_rule.specs.Facts.{At, link_at, with_link, HasMark, clean, Near, at_root, at_held, FitsNear, IsLegalUpdate, update_for}
use Rattle.record_rule.specs.Laws.{LeadsTo, NodeIs, Given, Keeps, relinked, ShapeLaws}
use Rattle.list_facts.proofs.Bodies.{clear_flags, is_unsettled, stays_settled}
use Rattle.list_facts.proofs.Openings.{opening_told}
use Rattle.list_facts.proofs.Hiding.{hiding_told}
use Rattle.list_facts.proofs.Nodes.{link_is as node_link}
use Rattle.one_key_facts.specs.OneKey.{OneKeyFits, MayMark, MayLink, MayTakeOut, one_key}
use Rattle.one_key_facts.proofs.Marking.{call_is, mark_legal, marks}
use Rattle.one_key_facts.proofs.Linking.{link_legal, links}
use Rattle.one_key_facts.proofs.TakingOut.{leads_there, not_root, takes}
use Rattle.one_key_facts.proofs.Opening.{opening_fits, hiding_fits}
use Rattle.one_key_facts.proofs.Shows.{ends_fit, shows}
use Rattle.one_key_facts.proofs.Walking.{key_walks, key_reads}

-- a link without a mark leads from a root to a linked record, and from a record nowhere
reaches : (x : ShapeInput) (near : Near) (f : ℕ) (l : LinkParts) (t : RefParts) → OneKeyFits x → NodeIs one_key x.cells near f l → f ≡ 3 → ¬ HasMark l → l.target ≡ Some t → LeadsTo x.cells t
reaches x (at_root k) f l t fits n field clear to = let leads = leads_there fits n field to in (leads.0, leads.1, leads.2, leads.3)
reaches x (at_held r note) f l t fits n field clear to = absurd (nowhere n.fits)
  where
    leads_from : link_at n.body 3 ≡ l
    leads_from = node_link n field

    nowhere : {i generation m : ℕ} → FitsNear one_key x.cells (at_held r note) i generation n.body m → ⊥
    nowhere k = let none : None ≡ Some t = sym (ends_fit fits k refl) ∙ ap (λ (q : LinkParts). q.target) leads_from ∙ to in cc

mark_keeps : (setup : Setup) (x : ShapeInput) (h : Trace) (c number : ℕ) (near : Near) (f : ℕ) (old new : LinkParts) (call : Option Call) → Given one_key setup x h → (n : NodeIs one_key x.cells near f old) → IsLink new → MayMark near f old new call
    → Keeps one_key setup x h near f old n new (update_for c number call) (record x { cells = set x.cells n.index (relinked one_key x.cells near f old n new (length h.updates)) })
mark_keeps setup x h c number (at_root k) f old new call given n in_range may = absurd may
mark_keeps setup x h c number (at_held r note) f old new call given n in_range may =
    let clear : ¬ HasMark (link_at n.body 3) = rw (node_link n may.0) (clear_flags old 0 refl may.1) in record {
      stands = marks given.1.0 given.1.1 n in_range may c number;
      legal = subst (λ (z : SetName). IsLegalUpdate z h.updates (update_for c number call)) (sym given.3) (rw (call_is given.1.0 given.1.1 n in_range may) (mark_legal given.1.0 given.1.1 n in_range may c number));
      unsettled = is_unsettled n.body f may.0 clear;
      settled = λ g. stays_settled n.body (with_link n.body f n.generation new) g clear;
      known = λ start k e. tt;
    }

link_keeps : (setup : Setup) (x : ShapeInput) (h : Trace) (c number : ℕ) (near : Near) (f : ℕ) (old : LinkParts) (own : RefParts) (body : List ℕ) (marked : ℕ) (call : Option Call) → Given one_key setup x h → (n : NodeIs one_key x.cells near f old)
    → At x.cells (own.index - 1) hidden → IsRef own → MayLink near f old body call
    → Keeps one_key setup x h near f old n (clean own) (update_for c number call) (record x { cells = set (set x.cells (own.index - 1) (linked own.generation body marked)) n.index (relinked one_key x.cells near f old n (clean own) (length h.updates)) })
link_keeps setup x h c number (at_held r note) f old own body marked call given n free ref may = let e : at_held r note ≡ at_root may.key = may.at in let no : ⊥ = cc in absurd no
link_keeps setup x h c number (at_root k) f old own body marked call given n free ref may =
    let clear : ¬ HasMark (link_at n.body 3) = rw (node_link n may.field) (clear_flags old 0 refl (ap (λ (l : LinkParts). l.flags) may.free)) in record {
      stands = links given.1.0 given.1.1 n may free ref marked c number;
      legal = subst (λ (z : SetName). IsLegalUpdate z h.updates (update_for c number call)) (sym given.3) (rw may.decides (link_legal given.1.0 given.1.1 n may c number));
      unsettled = is_unsettled n.body f may.field clear;
      settled = λ g. stays_settled n.body (with_link n.body f n.generation (clean own)) g clear;
      known = λ start k e. tt;
    }

take_keeps : (setup : Setup) (x : ShapeInput) (h : Trace) (c number : ℕ) (near : Near) (f : ℕ) (old : LinkParts) (gone : RefParts) (note : Note) (new : LinkParts) (call : Option Call) (i generation m : ℕ) (body : List ℕ)
    → Given one_key setup x h → (n : NodeIs one_key x.cells near f old) → old.target ≡ Some gone
    → FitsNear one_key x.cells (at_held gone note) i generation body m → IsLink new → MayTakeOut near f old (at_held gone note) new call
    → Keeps one_key setup x h near f old n new (update_for c number call) (record x { cells = set (set x.cells i (out generation body m (length x.taken_out))) n.index (relinked one_key x.cells near f old n new (length h.updates)); taken_out = x.taken_out ++ gone ∷ [] })
take_keeps setup x h c number (at_held r other) f old gone note new call i generation m body given n to held in_range may = absurd may
take_keeps setup x h c number (at_root k) f old gone note new call i generation m body given n to held in_range may =
    let clear : ¬ HasMark (link_at n.body 3) = rw (node_link n may.0) (clear_flags old 0 refl may.1) in record {
      stands = rw may.4 (takes given.1.0 n may.0 to given.1.1 held in_range may);
      legal = rw may.4 tt;
      unsettled = is_unsettled n.body f may.0 clear;
      settled = λ g. stays_settled n.body (with_link n.body f n.generation new) g clear;
      known = λ start k e. tt;
    }

gone_linked : (x : ShapeInput) (near : Near) (f : ℕ) (old : LinkParts) (gone : RefParts) (note : Note) (new : LinkParts) (call : Option Call) → OneKeyFits x
    → (n : NodeIs one_key x.cells near f old) → old.target ≡ Some gone → MayTakeOut near f old (at_held gone note) new call → LeadsTo x.cells gone × (n.index ≢ gone.index - 1)
gone_linked x (at_held r other) f old gone note new call fits n to may = absurd may
gone_linked x (at_root k) f old gone note new call fits n to may = let leads = leads_there fits n may.0 to in ((leads.0, leads.1, leads.2, leads.3), not_root fits n may.0 to)

pub one_key_laws : ShapeLaws one_key
one_key_laws = record {
  starts = λ setup h some fit none. (opening_fits setup, opening_told setup h none);
  walks = λ setup x h given body t on step. key_walks given.1.0 body t on step;
  reads = λ setup x h given roots. key_reads given.1.0 given.1.1;
  keys_stand = λ setup x near f l fits n. refl;
  reaches = λ setup x near f l t fits n hold clear to. reaches x near f l t fits n hold clear to;
  exchanges = λ setup x h t new given n in_range may. mark_keeps setup x h t.caller t.number t.near t.field t.old new t.call given n in_range may;
  -- no word may be locked
  locks = λ setup x t new fits n may lockable. let none : ⊥ = cc in absurd none;
  comes_unlocked = λ setup x t body next n may g lockable. let none : ⊥ = cc in absurd none;
  goes_unlocked = λ setup x t gone note new next i generation m body fits held link may g lockable. let none : ⊥ = cc in absurd none;
  leaves_unlocked = λ setup t gone note new next may lockable. let none : ⊥ = cc in absurd none;
  publishes = λ setup x h t own body marked next given n fits_next free ref long name may. link_keeps setup x h t.caller t.number t.near t.field t.old own body marked t.call given n free ref may;
  gone_linked = λ setup x t gone note new next fits n to may. gone_linked x t.near t.field t.old gone note new t.call fits n to may;
  follows = λ setup x h near f l start c kept t given n at behind known may to. absurd may;
  unlinks = λ setup x h t gone note new next i generation m body given n to held behind in_range may. take_keeps setup x h t.caller t.number t.near t.field t.old gone note new t.call i generation m body given n to held in_range may;
  hides = λ setup x h cells given hid. record { stands = (hiding_fits x cells hid given.1.0, hiding_told x h cells hid given.1.1); known = λ start k e. tt };
  shows = λ setup x h near f l start c target given n at seen late. shows given.1.0 given.1.1 n seen start;
  nothing = λ setup x updates start r. tt;
  -- the facts read nothing of the guards' starts
  begins = λ setup x h c given. let told = given.1.1 in record { keys = told.keys; marks = told.marks; alone = told.alone; balance = told.balance };
}
