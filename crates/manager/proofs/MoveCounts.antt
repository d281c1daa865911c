-- A caller's counts after its calls.
use Rattle.std.proofs.Common.{◌≡◌, ℕ, ◌+◌, ◌==◌, get_or, Bool, true, false, cond, Option, Some, None, sym, refl, ap, ◌∙◌, arith}
use Rattle.record_memory.specs.declared.books.Moves.{Moves}
use Rattle.record_memory.specs.declared.books.Share.{Share}
use Rattle.record_memory.specs.declared.books.Standing.{Standing}
use Rattle.record_memory.specs.declared.books.Standing.TheVariants.{Handing, Own, Spare, TakenOut, Limbo, Free, Spent}
use Rattle.record_memory.specs.declared.books.View.{View}
use Rattle.row_words.specs.declared.links.Chain.{Chain}
use Rattle.row_words.specs.declared.links.Freed.{Freed}
use Rattle.record_rule.specs.Kinds.{moves_stored}
use Rattle.record_rule.specs.Standings.{is_limbo, is_spent}
use Rattle.reclaim_api.specs.Frames.{away_as, in_away, is_as, had, IsLimboLeft, FreesInto}
use Rattle.record_pieces.proofs.Hands.{count_like}
use Rattle.manager.specs.declared.types.Moved.{Moved}
use Rattle.manager.specs.Counted.{shown, AreCounted}
use Rattle.manager.proofs.OneShare.{AwayStays}

-- moves but for births
pub record AreSameMoves (m m' : Moves) : Type 0 where
  pub drawn : m'.drawn ≡ m.drawn
  pub reused : m'.reused ≡ m.reused
  pub retired : m'.retired ≡ m.retired
  pub freed : m'.freed ≡ m.freed

pub same_moves : (m m' : Moves) → m' ≡ m → AreSameMoves m m'
same_moves m m' e = record { drawn = ap (λ (x : Moves). x.drawn) e; reused = ap (λ (x : Moves). x.reused) e; retired = ap (λ (x : Moves). x.retired) e; freed = ap (λ (x : Moves). x.freed) e }

pub moves_then : (m n o : Moves) → AreSameMoves m n → AreSameMoves n o → AreSameMoves m o
moves_then m n o a b = record { drawn = b.drawn ∙ a.drawn; reused = b.reused ∙ a.reused; retired = b.retired ∙ a.retired; freed = b.freed ∙ a.freed }

-- a store in a record that its owner hands out, or has
pub stored_moves : (s : Standing) (m : Moves) → AreSameMoves m (moves_stored s m)
stored_moves (Handing n) m = by (n == 7)
  where
    by : (b : Bool) → AreSameMoves m (cond b (record m { births = m.births + 1 }) m)
    by true = record { drawn = refl; reused = refl; retired = refl; freed = refl }
    by false = record { drawn = refl; reused = refl; retired = refl; freed = refl }
stored_moves Own m = same_moves m m refl
stored_moves Spare m = same_moves m m refl
stored_moves TakenOut m = same_moves m m refl
stored_moves Limbo m = same_moves m m refl
stored_moves Free m = same_moves m m refl
stored_moves Spent m = same_moves m m refl

-- what counts only records that were retired and can't be handed out sees no others
pub record SeesAway (test : Standing → Bool) : Type 0 where
  pub handing : (n : ℕ) → test (Handing n) ≡ false
  pub own : test Own ≡ false
  pub spare : test Spare ≡ false
  pub taken : test TakenOut ≡ false
  pub free : test Free ≡ false

module _ (test : Standing → Bool) (sees : SeesAway test) where
  away_is : (h : Share) (s : Standing) → h.standing ≡ s → is_as test (away_as h s) ≡ test s
  away_is h (Handing n) e = sym (sees.handing n)
  away_is h Own e = sym sees.own
  away_is h Spare e = sym sees.spare
  away_is h TakenOut e = sym sees.taken
  away_is h Limbo e = ap test e
  away_is h Free e = sym sees.free
  away_is h Spent e = ap test e

  in_away_is : (o : Option Share) → is_as test (in_away o) ≡ is_as test o
  in_away_is None = refl
  in_away_is (Some h) = away_is h h.standing refl

  pub had_away : (v w : View) → AwayStays v w → had test w.own ≡ had test v.own
  had_away v w stays = count_like (is_as test) refl w.own.mine v.own.mine (λ j. sym (in_away_is (get_or w.own.mine j None)) ∙ ap (is_as test) (stays j) ∙ in_away_is (get_or v.own.mine j None))

sees_limbo : SeesAway is_limbo
sees_limbo = record { handing = λ n. refl; own = refl; spare = refl; taken = refl; free = refl }

sees_spent : SeesAway is_spent
sees_spent = record { handing = λ n. refl; own = refl; spare = refl; taken = refl; free = refl }

-- a step that leaves these leaves the counts
module _ (v w : View) (n : Moved) (away : AwayStays v w) where
  pub limbo_still : v.own.moves.retired ≡ w.own.moves.retired → v.own.moves.freed ≡ w.own.moves.freed → IsLimboLeft v.own → IsLimboLeft w.own
  limbo_still retired freed left = let e = had_away is_limbo sees_limbo v w away in omega arith

  pub counted_still : AreSameMoves v.own.moves w.own.moves → AreCounted n v.own → AreCounted n w.own
  counted_still same h = record {
    drawn = h.drawn ∙ ap shown (sym same.drawn);
    reused = h.reused ∙ ap shown (sym same.reused);
    retired = h.retired ∙ ap shown (sym same.retired);
    freed = h.freed ∙ ap shown (sym same.freed);
    spent = h.spent ∙ ap shown (sym (had_away is_spent sees_spent v w away));
    limbo = limbo_still (sym same.retired) (sym same.freed) h.limbo;
  }

  -- one that draws a record, or reuses one
  pub spent_still : AreCounted n v.own → n.spent ≡ shown (had is_spent w.own)
  spent_still h = h.spent ∙ ap shown (sym (had_away is_spent sees_spent v w away))

-- after a call of the reclaimer that may free records
module _ (v w : View) (n : Moved) (before after : Chain) (f : Freed) (frees : FreesInto v before f w after) where
  pub freed_is : (k : ℕ) → ((a : ℕ) → n.freed ≡ shown a → k ≡ shown (a + f.freed)) → AreCounted n v.own → k ≡ shown w.own.moves.freed
  freed_is k raised h = raised v.own.moves.freed h.freed ∙ ap shown (sym frees.freed)

  pub spent_is : (k : ℕ) → ((a : ℕ) → n.spent ≡ shown a → k ≡ shown (a + f.spent)) → AreCounted n v.own → k ≡ shown (had is_spent w.own)
  spent_is k raised h = raised (had is_spent v.own) h.spent ∙ ap shown (sym frees.spent)
