use Rattle.std.proofs.Common.{ℕ, ◌≡◌, ◌/◌, ◌%◌, ◌^◌, Option, ap, ◌∙◌, sym, subst}
use Rattle.std.proofs.lemmas.Nat.{and_mask}
use Rattle.row_words.specs.Refs.{RefParts, LinkParts}
use Rattle.row_words.specs.Packing.{packed_link, link_in, own_in, ref_in, IsPackedRef}
use Rattle.row_words.proofs.Packed.{link_target_packed, link_is_packed}
use Rattle.row_words.proofs.packing.link_of.Goals as goal

pub ref_of-requires : goal.ref_of-requires
ref_of-requires c =
    record { packed = subst IsPackedRef (sym (and_mask c.args.word 40)) (link_target_packed c.args.word c.requires.packed) }

joined : (word flags : ℕ) (target : Option RefParts) → flags ≡ word / 2 ^ 40 % 2 ^ 4 → target ≡ ref_in (word % 2 ^ 40) → ◌≡◌ {A = LinkParts} (record { flags = flags; target = target }) (link_in word)
unfolding link_in
joined word flags target ef et = cc

pub returns-clause-link : goal.returns-clause-link
returns-clause-link c =
    joined c.args.word _ c.ref_of.result (and_mask (c.args.word / 2 ^ 40) 4) (c.ref_of.ensures.target ∙ ap ref_in (and_mask c.args.word 40))

pub returns-clause-word : goal.returns-clause-word
returns-clause-word c =
    ap (packed_link (own_in c.args.word)) (returns-clause-link c) ∙ link_is_packed c.args.word c.requires.packed
