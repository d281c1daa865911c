-- What a run told its callers, as it is reported.
use Rattle.std.proofs.Common.{◌≡◌, ℕ, ◌<◌, None, Some, Option, List, [], length, map, get_or, slice_get, refl, sym, ap, ◌∙◌, arith}
use Rattle.std.specs.Global.{Vec}
use Rattle.std.specs.Option.{option_map}
use Rattle.std.proofs.lemmas.List.{length-map, get_or-map, same_lists}
use Rattle.std.proofs.lemmas.Option.{none-some, same_Some, slice_get-get_or, slice_get-map}
use Rattle.set_model.specs.declared.calls.Call.{Call}
use Rattle.set_model.specs.declared.calls.Reply.{Reply}
use Rattle.set_model.specs.Keys.{empty}
use Rattle.report_text.specs.declared.report.Played.{Played}
use Rattle.listed.specs.Vectors.{items_of}
use Rattle.paired_replies.specs.Pairs.{replies_to}
use Rattle.workload_text.specs.Limits.{IsWorkload, Plan, calls_of_all, joined}
use Rattle.bench_core.specs.Plays.{AreTold, order_of, told_to}
use Rattle.bench_core.proofs.PlayOrder.{length-told_to, own_count-order}

-- what a vector at a caller's place holds
item-at : (told : List (Vec Reply)) (caller : ℕ) (items : List Reply) → slice_get (items_of told) caller ≡ Some items → (own : Vec Reply) × (slice_get told caller ≡ Some own) × (items ≡ own.items)
item-at told caller items is = found (slice_get told caller) (sym (slice_get-map (λ (own : Vec Reply). own.items) told caller) ∙ is)
  where
    found : (read : Option (Vec Reply)) → option_map (λ (own : Vec Reply). own.items) read ≡ Some items → (own : Vec Reply) × (read ≡ Some own) × (items ≡ own.items)
    found None is = absurd (none-some items is)
    found (Some own) is = (own, refl, sym (same_Some own.items items is))

-- and that is what the caller was told
told-items : {lists : List (List (List Call))} {told : List (Vec Reply)} → AreTold lists told
    → (caller : ℕ) (items : List Reply) → slice_get (items_of told) caller ≡ Some items → items ≡ told_to caller (order_of lists) empty
told-items {told = told} all caller items is =
    let own = item-at told caller items is in
    own.2 ∙ all.told caller own.0 own.1

-- Each caller is reported with what it was told.
pub reported : {lists : List (List (List Call))} {told : List (Vec Reply)} (callers : List Played) → AreTold lists told → replies_to callers ≡ items_of told
    → (caller : ℕ) (played : Played) → slice_get callers caller ≡ Some played → played.replies ≡ told_to caller (order_of lists) empty
reported {told = told} callers all same caller played is =
    let reply : Played → List Reply = λ one. one.replies in
    told-items all caller played.replies (sym (ap (λ items. slice_get items caller) same) ∙ slice_get-map reply callers caller ∙ ap (λ read. option_map reply read) is)

-- A caller has as many replies as calls.
told-length : (plan : Plan) → IsWorkload plan → {told : List (Vec Reply)} → AreTold plan.lists told
    → (caller : ℕ) → caller < length (items_of told) → length (get_or (items_of told) caller []) ≡ length (get_or (joined plan.lists) caller [])
told-length plan limits {told} all caller within =
    let own = get_or (items_of told) caller [] in
    let its : caller < length plan.lists = omega (arith, within, all.count, length-map told (λ (own : Vec Reply). own.items)) in
    ap length (told-items all caller own (slice_get-get_or (items_of told) caller [] within))
    ∙ length-told_to caller (order_of plan.lists) empty
    ∙ own_count-order plan limits caller its

-- And so has each.
pub told-lengths : (plan : Plan) → IsWorkload plan → {told : List (Vec Reply)} → AreTold plan.lists told → map length (items_of told) ≡ map length (joined plan.lists)
told-lengths plan limits {told} all = same_lists (map length items) (map length calls) lengths at
  where
    items : List (List Reply)
    items = items_of told

    calls : List (List Call)
    calls = joined plan.lists

    count : length items ≡ length calls
    count = omega (arith, all.count, length-map told (λ (own : Vec Reply). own.items), length-map plan.lists calls_of_all)

    lengths : length (map length items) ≡ length (map length calls)
    lengths = omega (arith, count, length-map items (λ (own : List Reply). length own), length-map calls (λ (own : List Call). length own))

    at : (caller d : ℕ) → caller < length (map length items) → get_or (map length items) caller d ≡ get_or (map length calls) caller d
    at caller d within =
        let here : caller < length items = omega (arith, within, length-map items (λ (own : List Reply). length own)) in
        let there : caller < length calls = omega (arith, here, count) in
        get_or-map (λ (own : List Reply). length own) items caller [] d here
        ∙ told-length plan limits all caller here
        ∙ sym (get_or-map (λ (own : List Call). length own) calls caller [] d there)
