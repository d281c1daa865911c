use Rattle.std.proofs.Common.{◌≡◌, ◌∙◌, ℕ, ap, refl}
use Rattle.row_words.specs.Refs.{RefParts, LinkParts}
use Rattle.row_words.specs.Packing.{packed_link}
use Rattle.record_memory.specs.declared.books.View.{View}
use Rattle.record_rule.specs.Kinds.{stored}
use Rattle.record_rule.specs.Asides.{chain_word}
use Rattle.record_rule.proofs.ChainRows.{owns_stored, still_store}
use Rattle.record_table.proofs.rows.RowsChainWords.store_chain.Goals as goal

pub returns-clause-owned : goal.returns-clause-owned
returns-clause-owned g c = let v : View = c.args.self.now.pass.now.seat.me.0 in let i : c.r.inside.index ≡ c.args.r.index = ap (λ (z : RefParts). z.index) c.r.view_is in let value : ℕ = c.pack_link-value.result in
    let p = c.store_field.ensures.pass in λ q o. (
      record { table = p.table ∙ o.0.table; setup = p.setup ∙ o.0.setup; present = p.present ∙ o.0.present },
      owns_stored v _ c.args.r value c.args.next (c.store_field.ensures.step ∙ ap (λ (k : ℕ). stored v k 1 value) i)
          (ap (λ (l : LinkParts). l.target) (c.pack_link-value.ensures.link ∙ c.to.ensures.link)) c.requires.owned.1 q o.1,
    )

pub returns-clause-same : goal.returns-clause-same
returns-clause-same g c = let v : View = c.args.self.now.pass.now.seat.me.0 in let i : c.r.inside.index ≡ c.args.r.index = ap (λ (z : RefParts). z.index) c.r.view_is in let value : ℕ = c.pack_link-value.result in
    (refl, refl, c.store_field.ensures.pass, still_store v _ c.args.r value c.args.next (c.store_field.ensures.step ∙ ap (λ (k : ℕ). stored v k 1 value) i) (ap (λ (l : LinkParts). l.target) (c.pack_link-value.ensures.link ∙ c.to.ensures.link)) c.requires.owned.1)

pub returns-clause-made : goal.returns-clause-made
returns-clause-made g c = let v : View = c.args.self.now.pass.now.seat.me.0 in let i : c.r.inside.index ≡ c.args.r.index = ap (λ (z : RefParts). z.index) c.r.view_is in
    let generation : c.get.result ≡ c.args.r.generation = c.get.ensures.number ∙ ap (λ (z : RefParts). z.generation) c.r.view_is in
    let value : c.pack_link-value.result ≡ chain_word c.args.r.generation c.args.next = c.pack_link-value.ensures.word ∙ ap (packed_link c.get.result) c.to.ensures.link ∙ ap (λ (z : ℕ). chain_word z c.args.next) generation in
    c.store_field.ensures.step ∙ (λ k. stored v (i k) 1 (value k))
