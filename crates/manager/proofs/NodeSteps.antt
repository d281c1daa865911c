-- A caller after a step on a word of a root, of a record that it holds or of an own one.
use Rattle.std.proofs.Common.{◌≡◌, ℕ, ◌+◌, ◌-◌, ◌<◌, ◌≤◌, List, [], ◌∷◌, ◌++◌, length, length-append, get_or, set, Bool, Option, Some, None, Result, Ok, Err, sym, refl, ap, ◌∙◌, subst, arith}
use Rattle.std.specs.Prelude.{MatchResult}
use Rattle.set_model.specs.declared.calls.Call.{Call}
use Rattle.set_model.specs.declared.calls.Update.{Update}
use Rattle.record_memory.specs.declared.steps.Step.{Step}
use Rattle.record_memory.specs.declared.steps.StepKind.{StepKind}
use Rattle.record_memory.specs.declared.books.LockedWord.{LockedWord}
use Rattle.record_memory.specs.declared.books.Setup.{Setup}
use Rattle.record_memory.specs.declared.books.Moves.{Moves}
use Rattle.record_memory.specs.declared.books.View.{View}
use Rattle.record_memory.specs.declared.books.Share.{Share}
use Rattle.record_memory.specs.declared.books.Standing.{Standing}
use Rattle.record_memory.specs.declared.books.Standing.TheVariants.{Own, Free, Spare}
use Rattle.row_words.specs.Refs.{RefParts, LinkParts}
use Rattle.row_words.specs.declared.links.Chain.{Chain}
use Rattle.record_rule.specs.Facts.{ShapeFacts, CoverFacts, clean}
use Rattle.record_rule.specs.Kinds.{share_in, moves_stored, stored, stored_as, share_after, standing_after, idle}
use Rattle.record_rule.specs.HandingOut.{IsOwnOf}
use Rattle.record_rule.specs.Laws.{with_update}
use Rattle.record_rule.specs.Links.{AreWhole, own_update, front_for, Origin, ExchangedLink, PublishedLink, UnlinkedRecord, LeftLink, PublishedBy, UnlinkedBy}
use Rattle.record_rule.proofs.HandingOut.{known_within}
use Rattle.record_rule.proofs.Makes.{idle_mine}
use Rattle.record_table.specs.declared.nodes.Found.{Found}
use Rattle.record_table.specs.declared.passes.Pass.{Pass}
use Rattle.record_table.specs.Handles.{view, IsSamePass}
use Rattle.record_table.specs.Nodes.{IsRefused}
use Rattle.reclaim_api.specs.Guarding.{IsInside}
use Rattle.reclaim_api.specs.Frames.{GoesOn, in_away}
use Rattle.reclaim_api.proofs.Kept.{Stays, chain_stays, goes_on}
use Rattle.record_pieces.specs.Events.{KeepsStock}
use Rattle.manager.specs.Callers.{HasChains}
use Rattle.manager.proofs.OneShare.{AwayStays}
use Rattle.manager.proofs.MoveCounts.{same_moves, counted_still}
use Rattle.manager.specs.declared.types.Moved.{Moved}
use Rattle.manager.specs.Counted.{AreCounted}
use Rattle.manager.proofs.Stay.{LocalStays, mine_stays, local_still}
use Rattle.manager.proofs.Stocks.{stays_kept, spares_kept}
use Rattle.manager.proofs.Entries.{IsAloof, entry_stays, entry_limbo, entry_idle}

-- the step leaves what is in limbo and the records in chains, and the guard is the same or started with it
pub record LeavesAll (c : CoverFacts) (v w : View) : Type 0 where
  pub guard : GoesOn c v w
  pub away : AwayStays v w
  pub moves : w.own.moves ≡ v.own.moves
  pub frees : Stays Free v w
  pub spares : Stays Spare v w
  pub idle_is : idle w.own ≡ idle v.own
  pub later : length v.own.steps ≤ length w.own.steps
  pub front : length v.front ≤ length w.front

-- one step was made
pub one_more : (b c : List Step) (t : Step) → c ≡ b ++ t ∷ [] → length c ≡ length b + 1
one_more b c t e = ap (λ (x : List Step). length x) e ∙ length-append b (t ∷ [])

-- so its caller is inside as before, its chains are the same lists, and as many records are spare
module _ {S R L : Type 0} {c : CoverFacts} (is_local : L → Bool → View → View → Type 0) (p q : Pass S R) (same : IsSamePass p q) (l : L) (free spare : Chain) (stays : LocalStays c is_local) (leaves : LeavesAll c (view p) (view q)) where
  pub inside_still : IsInside p → IsInside q
  inside_still h = record {
    inside = ap (λ x. x.value) same.inside ∙ h.inside;
    later = let e = ap (λ x. length x.value.me.0.own.steps) same.since in let a = h.later in let b = leaves.later in omega arith;
  }

  pub chains_still : HasChains is_local p l free spare → HasChains is_local q l free spare
  chains_still h = let records = ap (λ (k : Setup). k.records) same.setup in record {
    local = local_still is_local p q l (view p) same stays record { setup = same.setup; caller = same.caller; guard = leaves.guard; steps = leaves.later; front = leaves.front; away = leaves.away; retired = ap (λ (m : Moves). m.retired) leaves.moves; births = ap (λ (m : Moves). m.births) leaves.moves } h.local;
    frees = chain_stays Free (view p) (view q) records leaves.frees free h.frees;
    spares = chain_stays Spare (view p) (view q) records leaves.spares spare h.spares;
    all = leaves.idle_is ∙ h.all;
  }

  pub stock_still : HasChains is_local p l free spare → KeepsStock (view p).own (view q).own
  stock_still h = record { spare = spares_kept is_local p q l l free spare free spare h (chains_still h) refl; kept = stays_kept (view p) (view q) leaves.spares; drawn = ap (λ (m : Moves). m.drawn) leaves.moves; reused = ap (λ (m : Moves). m.reused) leaves.moves; births = ap (λ (m : Moves). m.births) leaves.moves }

-- and its counts are the same
pub counts_left : (c : CoverFacts) (v w : View) (n : Moved) → LeavesAll c v w → AreCounted n v.own → AreCounted n w.own
counts_left c v w n leaves h = counted_still v w n leaves.away (same_moves v.own.moves w.own.moves leaves.moves) h

module _ (c : CoverFacts) (v w : View) where
  -- it knows no less to come before, where that is the same, and where a call may have been decided
  same_front : w.front ≡ v.front → length v.front ≤ length w.front
  same_front e = omega (arith, ap (λ (l : List Update). length l) e)

  front_decided : (updates : List Update) (taken_out : List RefParts) → AreWhole v updates taken_out → (u : Option Update) (call : Option Call) → w.front ≡ front_for v.front (with_update updates u) call → length v.front ≤ length w.front
  front_decided updates taken_out whole u None e = same_front e
  front_decided updates taken_out whole u (Some call) e = by u e
    where
      by : (u : Option Update) → w.front ≡ with_update updates u → length v.front ≤ length w.front
      by None is = omega (arith, ap (λ (l : List Update). length l) is, ap (λ (l : List Update). length l) whole.front.1, length-append v.front whole.front.0)
      by (Some x) is = omega (arith, ap (λ (l : List Update). length l) is, length-append updates (x ∷ []), ap (λ (l : List Update). length l) whole.front.1, length-append v.front whole.front.0)

  -- a step that leaves each record
  pub leaves_records : (t : Step) → GoesOn c v w → length v.front ≤ length w.front → w.own.mine ≡ v.own.mine → w.own.moves ≡ v.own.moves → w.own.steps ≡ v.own.steps ++ t ∷ [] → LeavesAll c v w
  leaves_records t guard front mine moves steps = record {
    guard = guard;
    away = λ i. ap (λ m. in_away (get_or m i None)) mine;
    moves = moves;
    frees = mine_stays Free v w mine;
    spares = mine_stays Spare v w mine;
    idle_is = idle_mine v w mine;
    later = omega (arith, one_more v.own.steps w.own.steps t steps);
    front = front;
  }

  -- one that changes one record, which is in no chain
  pub leaves_others : (t : Step) (i : ℕ) (old new : Option Share) → share_in v i ≡ old → w.own.mine ≡ set v.own.mine (i - 1) new → i - 1 < length v.own.mine → IsAloof old → IsAloof new → w.own.moves ≡ v.own.moves → w.own.guard ≡ v.own.guard → length v.front ≤ length w.front → w.own.steps ≡ v.own.steps ++ t ∷ [] → LeavesAll c v w
  leaves_others t i old new was mine within before after moves guard front steps = record {
    guard = goes_on c v w guard;
    moves = moves;
    away = entry_limbo v w i old new was mine within before after;
    frees = entry_stays v w i old new was mine within before after Free (λ x. x);
    spares = entry_stays v w i old new was mine within before after Spare (λ x. x);
    idle_is = entry_idle v w i old new was mine within before after;
    later = omega (arith, one_more v.own.steps w.own.steps t steps);
    front = front;
  }

  module _ (s : ShapeFacts) (o : Origin) where
    -- a refused exchange
    refused_leaves : (old link : LinkParts) → IsRefused v o old link w → LeavesAll c v w
    refused_leaves old link e = leaves_records _ (goes_on c v w (ap (λ (x : View). x.own.guard) e.refused.view)) (same_front (ap (λ (x : View). x.front) e.refused.view)) (ap (λ (x : View). x.own.mine) e.refused.view) (ap (λ (x : View). x.own.moves) e.refused.view) (ap (λ (x : View). x.own.steps) e.refused.view)

    -- a step that leaves another link
    pub left_leaves : {kind : StepKind} {locks : List LockedWord} (old new : LinkParts) (call : Option Call) → LeftLink s v kind o 3 old new call locks w → LeavesAll c v w
    left_leaves old new call e = leaves_records _ (goes_on c v w (ap (λ (x : View). x.own.guard) e.view)) (front_decided e.updates e.taken_out e.whole (own_update v call) call (ap (λ (x : View). x.front) e.view)) (ap (λ (x : View). x.own.mine) e.view) (ap (λ (x : View). x.own.moves) e.view) (ap (λ (x : View). x.own.steps) e.view)

    -- one that links an own record
    pub linked_leaves : {kind : StepKind} {locks : List LockedWord} (old : LinkParts) (own : RefParts) (call : Option Call) → IsOwnOf v own → PublishedBy s v kind o 3 old own call locks w → LeavesAll c v w
    linked_leaves old own call has e = let h = has.1 in leaves_others _ own.index (Some h.share) None h.known (ap (λ (x : View). x.own.mine) e.view) (known_within v.own.mine (own.index - 1) h.share h.known) (subst IsAloof (λ k. Some (record h.share { standing = sym h.standing_is k })) tt) tt
        (ap (λ (x : View). x.own.moves) e.view) (ap (λ (x : View). x.own.guard) e.view) (front_decided e.updates e.taken_out e.whole (own_update v call) call (ap (λ (x : View). x.front) e.view)) (ap (λ (x : View). x.own.steps) e.view)

    -- one that takes a record out
    pub out_leaves : {kind : StepKind} {locks : List LockedWord} (old : LinkParts) (gone : RefParts) (new : LinkParts) → 0 < v.setup.records → UnlinkedBy s v kind o 3 old gone new locks w → LeavesAll c v w
    out_leaves old gone new some u =
        leaves_others _ gone.index None _ u.none (ap (λ (x : View). x.own.mine) u.view) (let a = u.within in let b = u.mine in omega arith) tt tt (ap (λ (x : View). x.own.moves) u.view) (ap (λ (x : View). x.own.guard) u.view) (same_front (ap (λ (x : View). x.front) u.view)) (ap (λ (x : View). x.own.steps) u.view)

    -- an exchange of a link
    pub exchange_leaves : {U : Type 0} (old new : LinkParts) (call : Option Call) (r : Result U Found) → MatchResult r (λ _. ExchangedLink s v o 3 old new call w) (λ found. IsRefused v o old found.link w) → LeavesAll c v w
    exchange_leaves old new call (Ok u) e = left_leaves old new call e
    exchange_leaves old new call (Err found) e = refused_leaves old found.link e

    -- of an own record
    pub publish_leaves : {U : Type 0} (old : LinkParts) (own : RefParts) (call : Option Call) → IsOwnOf v own → (r : Result U (RefParts × Found)) → MatchResult r (λ _. PublishedLink s v o 3 old own call w) (λ back. (back.0 ≡ own) × IsRefused v o old back.1.link w) → LeavesAll c v w
    publish_leaves old own call has (Ok u) e = linked_leaves old own call has e
    publish_leaves old own call has (Err back) e = refused_leaves old back.1.link e.1

    -- of a held record
    pub unlink_leaves : (gone : RefParts) (new : LinkParts) → 0 < v.setup.records → (r : Result RefParts Found) → MatchResult r (λ taken. (taken ≡ gone) × UnlinkedRecord s v o 3 gone new w) (λ found. IsRefused v o (clean gone) found.link w) → LeavesAll c v w
    unlink_leaves gone new some (Ok taken) e = out_leaves (clean gone) gone new some e.1
    unlink_leaves gone new some (Err found) e = refused_leaves (clean gone) found.link e

  -- a store in an own record
  pub store_leaves : (own : RefParts) (word value : ℕ) → IsOwnOf v own → w ≡ stored v own.index word value → LeavesAll c v w
  store_leaves own word value has e = let h = has.1 in let is = e ∙ ap (stored_as v own.index word value) h.known in
      leaves_others _ own.index (Some h.share) _ h.known (ap (λ (x : View). x.own.mine) is) (known_within v.own.mine (own.index - 1) h.share h.known) (subst IsAloof (λ k. Some (record h.share { standing = sym h.standing_is k })) tt) (after h.share h.standing_is)
      (ap (λ (x : View). x.own.moves) is ∙ ap (λ q. moves_stored q v.own.moves) h.standing_is) (ap (λ (x : View). x.own.guard) is) (same_front (ap (λ (x : View). x.front) is)) (ap (λ (x : View). x.own.steps) is)
    where
      after : (h : Share) → h.standing ≡ Own → IsAloof (Some (share_after h word value))
      after h own_is = subst (λ (q : Standing). IsAloof (Some (record h { standing = standing_after q; words = set h.words word value }))) (sym own_is) tt
