use Rattle.std.proofs.Common.{◌≡◌, length, ap, ◌∙◌, inl, inr, arith}
use Rattle.std.proofs.lemmas.List.{length-map}
use Rattle.std.specs.Global.{Vec}
use Rattle.std.specs.Iterator.Adapters.{zip_first, zip_second}
use Rattle.std.specs.Vec.Iter.{into_iter_items}
use Rattle.set_model.specs.declared.calls.Call.{Call}
use Rattle.set_model.specs.declared.calls.Reply.{Reply}
use Rattle.listed.specs.Vectors.{items_of}
use Rattle.paired_replies.specs.Pairs.{calls_of, replies_to}
use Rattle.paired_replies.proofs.Pairing.{PairsTo-count, PairsTo-end, PairsTo-same}
use Rattle.paired_replies.proofs.pair_up.Goals as goal

pub unwrap-requires : goal.unwrap-requires
unwrap-requires c =
    let w = c.loop-calls.invariant in
    c.push.ensures.succeeds (omega (
      arith,
      PairsTo-count w.pairs,
      length-map (into_iter_items (zip_first c.loop-calls.calls-iterator)) (λ (v : Vec Call). v.items),
      ap length c.in-Some.ensures.steps.0.0,
      length-map c.args.lists.items (λ (v : Vec Call). v.items),
      w.room,
    ))

pub returns : goal.returns
returns c =
    let w = c.loop-calls.invariant in
    let calls = into_iter_items (zip_first c.loop-calls.calls-iterator) in
    let replies = into_iter_items (zip_second c.loop-calls.calls-iterator) in
    let none : length (items_of calls) ≡ 0 = elim c.in-None.ensures.steps [
      | inl ended ↦ omega (arith, length-map calls (λ (v : Vec Call). v.items), w.lists_left, ended.1.0)
      | inr ended ↦ omega (arith, PairsTo-same w.pairs, length-map replies (λ (v : Vec Reply). v.items), w.replies_left, ended.1.0)
    ] in
    let all = PairsTo-end w.pairs none in
    record { calls = ap calls_of c.of-2.ensures ∙ all.0; replies = ap replies_to c.of-2.ensures ∙ all.1 }
