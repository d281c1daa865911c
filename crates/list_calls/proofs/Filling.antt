-- An own record that was filled may be linked where a walk found its key absent.
use Rattle.std.proofs.Common.{◌≡◌, ℕ, ◌+◌, ◌%◌, ◌<◌, ◌^◌, List, drop, Option, Some, None, sym, refl, ap, ◌∙◌, subst}
use Rattle.set_model.specs.declared.calls.Call.TheVariants.{Insert}
use Rattle.record_memory.specs.declared.books.Setup.{Setup}
use Rattle.record_memory.specs.declared.books.View.{View}
use Rattle.row_words.specs.Refs.{RefParts, LinkParts}
use Rattle.row_words.specs.Packing.{packed_number, packed_link, packed_ref}
use Rattle.record_rule.specs.Facts.{Near}
use Rattle.record_rule.specs.HandingOut.{HasOwn, IsOwnOf}
use Rattle.record_rule.specs.Kinds.{stored}
use Rattle.record_rule.specs.Links.{from_place, near_of, IsNextOf, at_end, at_place}
use Rattle.list_facts.specs.Steps.{home_near, IsAbove, MayPublish}
use Rattle.record_table.specs.declared.passes.Pass.{Pass}
use Rattle.record_table.specs.declared.nodes.Held.{Held}
use Rattle.record_table.specs.declared.nodes.Node.{Node}
use Rattle.record_table.specs.Handles.{view}
use Rattle.record_table.specs.Nodes.{origin}
use Rattle.set_calls.proofs.Filling.{filled_record}
use Rattle.list_calls.specs.Records.{target_of}
use Rattle.list_calls.specs.Standing.{StandsBefore, IsBeyond}

-- what the walk found behind the key's place
behind : {S R : Type 0} (p : Pass S R) (root key : ℕ) (next : Option Held) → IsBeyond p root key next → (near : Option Near) × IsNextOf (view p) (target_of next) near × IsAbove (key + 1) near
behind p root key None beyond = (None, at_end, tt)
behind p root key (Some at) beyond = (Some (near_of (view p) (from_place at.place at.target)), at_place at.place at.target beyond.0.there.holds, (beyond.1, beyond.0.keyed))

-- it is filled by two stores, and may be linked, by a step that asks for a link with these flags
pub may_link : {S R : Type 0} (flags : ℕ) (p : Pass S R) (root key : ℕ) (before : Node) (next : Option Held) (setup : Setup) (own : RefParts) (u v : View) (expected : LinkParts)
    → (view p).setup ≡ setup → key % setup.roots ≡ root → key < 2 ^ 40 → StandsBefore p root key before → IsBeyond p root key next
    → IsOwnOf u own → v ≡ stored u own.index 4 (packed_number own.generation key) → view p ≡ stored v own.index 3 (packed_number own.generation (packed_ref (target_of next))) → expected ≡ record { flags = flags; target = target_of next }
    → (row : List ℕ) × (near : Option Near) × HasOwn (view p) own row × IsNextOf (view p) expected.target near × MayPublish flags setup (near_of (view p) (origin before)) 3 expected (drop 3 row) near (Some (Insert key))
may_link flags p root key before next setup own u v expected same home fits stands beyond has first second is =
    let made = filled_record u v (view p) own key (target_of next) has first second in
    let next_is = behind p root key next beyond in (
      made.0,
      next_is.0,
      made.1,
      subst (λ (l : LinkParts). IsNextOf (view p) l.target next_is.0) (sym is) next_is.1,
      record {
        field = refl;
        flags_are = ap (λ (l : LinkParts). l.flags) is;
        generation = own.generation;
        k = key;
        node = record {
          link_is = made.2 ∙ ap (λ (l : LinkParts). packed_link own.generation (record l { flags = 0 })) (sym is);
          key_is = made.3;
          key_fits = fits;
        };
        keyed = stands.stands.keyed;
        above = stands.below;
        below = next_is.2;
        home = ap (λ (k : Setup). home_near k (near_of (view p) (origin before))) (sym same) ∙ stands.stands.home ∙ sym home;
        decides = refl;
      },
    )
