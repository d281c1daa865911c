-- Records that pass a test leave a caller's limbo: what that leaves of each record, and how many are idle, spent and in limbo then.
use Rattle.std.proofs.Common.{◌≡◌, ◌≢◌, ℕ, zero, suc, ◌+◌, ◌-◌, ◌≤◌, List, [], ◌∷◌, All, get_or, Bool, true, false, cond, eqb, ◌&&◌, Option, Some, None, sym, refl, ap, ◌∙◌, subst, arith}
use Rattle.std.specs.List.{count_by}
use Rattle.record_memory.specs.declared.books.Moves.{Moves}
use Rattle.record_memory.specs.declared.books.View.{View}
use Rattle.record_memory.specs.declared.books.Setup.{Setup}
use Rattle.record_memory.specs.declared.books.Share.{Share}
use Rattle.record_memory.specs.declared.books.Standing.{Standing}
use Rattle.record_memory.specs.declared.books.Standing.TheVariants.{Limbo, Free, Spent}
use Rattle.row_words.specs.Refs.{RefParts, refer}
use Rattle.row_words.specs.Rows.{Row}
use Rattle.row_words.specs.declared.links.Chain.{Chain}
use Rattle.limbo_bags.specs.Chains.{IsKept}
use Rattle.limbo_bags.proofs.Chains.{chain_kept}
use Rattle.record_rule.specs.Facts.{LimboRecord, CoverFacts}
use Rattle.record_rule.specs.Kinds.{share_in, is_idle, is_idle_as, idle, control_load}
use Rattle.record_rule.specs.Standings.{is_limbo, is_spent}
use Rattle.record_rule.specs.Freeing.{freed_standing, limbo_share, leaves_limbo, freed_of, freed_from, leaves_one, count_freed, guard_loaded, LoadedControl}
use Rattle.record_rule.specs.ChainRows.{row_of_share, share_with, row_in, IsChained, OwnsChain, IsAway, OwnsAway}
use Rattle.record_rule.proofs.CountingPlaces.{bit, count_cons}
use Rattle.record_rule.proofs.TakesFree.{read_with}
use Rattle.reclaim_api.specs.Chained.{known_words, IsAs, IsChainOf, refs_in}
use Rattle.reclaim_api.specs.Frames.{rest_as, in_rest, LeavesRest, AddsSteps, is_as, had, IsLimboLeft}
use Rattle.reclaim_api.specs.Bags.{limbo_read, bag_count, spends_one, count_spent, LeftLimbo}
use Rattle.reclaim_api.proofs.Kept.{Stays}

both : (a b : Bool) → (a && b) ≡ true → (a ≡ true) × (b ≡ true)
both true b h = (refl, h)
both false b h = let none : ⊥ = cc in absurd none

pub limbo_is : (s : Standing) → is_limbo s ≡ true → s ≡ Limbo
limbo_is Limbo h = refl
limbo_is s h = let none : ⊥ = cc in absurd none

-- free and spent records are chained
chained_then : (b : Bool) → IsChained (cond b Spent Free)
chained_then true = tt
chained_then false = tt

-- What a test reads of a record whose chain word the caller owns
pub read_is : (v : View) (r : RefParts) (o : OwnsChain v r) → limbo_share (r.index - 1) o.share ≡ limbo_read v r
read_is v r o = λ k. record { reference = refer (index k) (o.generation k); birth = (row k).birth; stamp = (row k).stamp }
  where
    index : r.index - 1 + 1 ≡ r.index
    index = let some = o.is_ref.index.0 in omega arith

    row : row_of_share (Some o.share) ≡ row_in v r
    row = ap row_of_share (sym o.known ∙ sym (read_with v r.index o.is_ref.index.0))

module _ (may : LimboRecord → Bool) (i : ℕ) where
  -- one that goes was in limbo
  pub went : (h : Share) → leaves_limbo may i h ≡ true → (h.standing ≡ Limbo) × (may (limbo_share i h) ≡ true)
  went h e = let x = both (is_limbo h.standing) (may (limbo_share i h)) e in (limbo_is h.standing x.0, x.1)

  -- what it becomes
  pub goes_one : (h : Share) → h.standing ≡ Limbo → may (limbo_share i h) ≡ true → freed_of may i (Some h) ≡ Some (record h { standing = freed_standing h.generation })
  goes_one h is passes = ap (λ (b : Bool). Some (cond b (record h { standing = freed_standing h.generation }) h)) (ap (λ (s : Standing). is_limbo s && may (limbo_share i h)) is ∙ passes)

  -- one that doesn't pass stays
  pub stays_one : (h : Share) → may (limbo_share i h) ≡ false → freed_of may i (Some h) ≡ Some h
  stays_one h fails = ap (λ (b : Bool). Some (cond b (record h { standing = freed_standing h.generation }) h)) (ap (λ (b : Bool). is_limbo h.standing && b) fails ∙ never (is_limbo h.standing))
    where
      never : (b : Bool) → (b && false) ≡ false
      never true = refl
      never false = refl

  -- and so does one that isn't in limbo
  pub other_one : (h : Share) → h.standing ≢ Limbo → freed_of may i (Some h) ≡ Some h
  other_one h other = by (leaves_limbo may i h) refl
    where
      by : (b : Bool) → leaves_limbo may i h ≡ b → Some (cond b (record h { standing = freed_standing h.generation }) h) ≡ Some h
      by true e = absurd (other (went h e).0)
      by false e = refl

  -- only how the caller has it changes
  same_of : {B : Type 0} (f : Option Share → B) → ((h : Share) (s : Standing) → f (Some (record h { standing = s })) ≡ f (Some h)) → (o : Option Share) → f (freed_of may i o) ≡ f o
  same_of f same None = refl
  same_of {B = B} f same (Some h) = by (leaves_limbo may i h)
    where
      by : (b : Bool) → f (Some (cond b (record h { standing = freed_standing h.generation }) h)) ≡ f (Some h)
      by true = same h (freed_standing h.generation)
      by false = refl

  -- of the others the same is known
  rest_one : (o : Option Share) → in_rest (freed_of may i o) ≡ in_rest o
  rest_one None = refl
  rest_one (Some h) = by (leaves_limbo may i h) refl (eqb h.generation 1048575)
    where
      by : (b : Bool) → leaves_limbo may i h ≡ b → (g : Bool) → in_rest (Some (cond b (record h { standing = cond g Spent Free }) h)) ≡ in_rest (Some h)
      by false e g = refl
      by true e true = sym (ap (rest_as h) (went h e).0)
      by true e false = sym (ap (rest_as h) (went h e).0)

  -- how each is counted
  idle_one : (o : Option Share) → bit (is_idle (freed_of may i o)) + spends_one may i o ≡ bit (is_idle o) + leaves_one may i o
  idle_one None = refl
  idle_one (Some h) = by (leaves_limbo may i h) refl (eqb h.generation 1048575)
    where
      by : (b : Bool) → leaves_limbo may i h ≡ b → (g : Bool) → bit (is_idle (Some (cond b (record h { standing = cond g Spent Free }) h))) + cond b (cond g 1 0) 0 ≡ bit (is_idle (Some h)) + cond b 1 0
      by false e g = refl
      by true e true = ap (λ (s : Standing). bit (is_idle_as s) + 1) (sym (went h e).0)
      by true e false = ap (λ (s : Standing). bit (is_idle_as s) + 1) (sym (went h e).0)

  spent_one : (o : Option Share) → bit (is_as is_spent (freed_of may i o)) ≡ bit (is_as is_spent o) + spends_one may i o
  spent_one None = refl
  spent_one (Some h) = by (leaves_limbo may i h) refl (eqb h.generation 1048575)
    where
      by : (b : Bool) → leaves_limbo may i h ≡ b → (g : Bool) → bit (is_as is_spent (Some (cond b (record h { standing = cond g Spent Free }) h))) ≡ bit (is_as is_spent (Some h)) + cond b (cond g 1 0) 0
      by false e g = let zero_more : bit (is_spent h.standing) ≡ bit (is_spent h.standing) + 0 = omega arith in zero_more
      by true e true = ap (λ (s : Standing). bit (is_spent s) + 1) (sym (went h e).0)
      by true e false = ap (λ (s : Standing). bit (is_spent s) + 0) (sym (went h e).0)

  limbo_one : (o : Option Share) → bit (is_as is_limbo (freed_of may i o)) + leaves_one may i o ≡ bit (is_as is_limbo o)
  limbo_one None = refl
  limbo_one (Some h) = by (leaves_limbo may i h) refl (eqb h.generation 1048575)
    where
      by : (b : Bool) → leaves_limbo may i h ≡ b → (g : Bool) → bit (is_as is_limbo (Some (cond b (record h { standing = cond g Spent Free }) h))) + cond b 1 0 ≡ bit (is_as is_limbo (Some h))
      by false e g = let zero_more : bit (is_limbo h.standing) + 0 ≡ bit (is_limbo h.standing) = omega arith in zero_more
      by true e true = ap (λ (s : Standing). bit (is_limbo s)) (sym (went h e).0)
      by true e false = ap (λ (s : Standing). bit (is_limbo s)) (sym (went h e).0)

module _ (may : LimboRecord → Bool) where
  -- Entry by entry
  pub entry_left : (i k : ℕ) (l : List (Option Share)) → get_or (freed_from may i l) k None ≡ freed_of may (i + k) (get_or l k None)
  entry_left i k [] = refl
  entry_left i zero (x ∷ xs) = ap (λ (j : ℕ). freed_of may j x) (omega arith)
  entry_left i (suc k) (x ∷ xs) = entry_left (i + 1) k xs ∙ ap (λ (j : ℕ). freed_of may j (get_or xs k None)) (let e : i + 1 + k ≡ i + suc k = omega arith in e)

  -- in a list of shares
  idle_from : (i : ℕ) (l : List (Option Share)) → count_by is_idle (freed_from may i l) + count_spent may i l ≡ count_by is_idle l + count_freed may i l
  idle_from i [] = refl
  idle_from i (x ∷ xs) = let a = count_cons is_idle (freed_of may i x) (freed_from may (i + 1) xs) in let b = count_cons is_idle x xs in let c = idle_one may i x in let d = idle_from (i + 1) xs in omega arith

  spent_from : (i : ℕ) (l : List (Option Share)) → count_by (is_as is_spent) (freed_from may i l) ≡ count_by (is_as is_spent) l + count_spent may i l
  spent_from i [] = refl
  spent_from i (x ∷ xs) = let a = count_cons (is_as is_spent) (freed_of may i x) (freed_from may (i + 1) xs) in let b = count_cons (is_as is_spent) x xs in let c = spent_one may i x in let d = spent_from (i + 1) xs in omega arith

  limbo_from : (i : ℕ) (l : List (Option Share)) → count_by (is_as is_limbo) (freed_from may i l) + count_freed may i l ≡ count_by (is_as is_limbo) l
  limbo_from i [] = refl
  limbo_from i (x ∷ xs) = let a = count_cons (is_as is_limbo) (freed_of may i x) (freed_from may (i + 1) xs) in let b = count_cons (is_as is_limbo) x xs in let c = limbo_one may i x in let d = limbo_from (i + 1) xs in omega arith

module _ (c : CoverFacts) (v : View) (word n : ℕ) (w : View) (told : LoadedControl c v word n w) where
  -- A load that frees
  pub left_limbo : LeftLimbo (c.may_free v.setup (guard_loaded c v word n told.moment)) v w
  left_limbo = record {
    setup = ap (λ (x : View). x.setup) told.view;
    mine = ap (λ (x : View). x.own.mine) told.view;
    moves = ap (λ (x : View). x.own.moves) told.view;
    answered = ap (λ (x : View). x.own.answered) told.view;
    locks = ap (λ (x : View). x.own.locks) told.view;
    front = ap (λ (x : View). x.front) told.view;
  }

  -- is one step
  pub loaded_adds : AddsSteps v.own w.own
  loaded_adds = (control_load v word n ∷ [], ap (λ (x : View). x.own.steps) told.view)

module _ (may : LimboRecord → Bool) (v w : View) (h : LeftLimbo may v w) where
  -- What is known of one record
  pub share_left : (i : ℕ) → share_in w i ≡ freed_of may (i - 1) (share_in v i)
  share_left i = ap (λ (l : List (Option Share)). get_or l (i - 1) None) h.mine ∙ entry_left may 0 (i - 1) v.own.mine ∙ ap (λ (j : ℕ). freed_of may j (share_in v i)) (let e : 0 + (i - 1) ≡ i - 1 = omega arith in e)

  -- Of records that aren't in limbo, free or spent the same is known
  pub left_rest : LeavesRest v w
  left_rest = record {
    rest = λ i. ap in_rest (share_left i) ∙ rest_one may (i - 1) (share_in v i);
    moves = ap (λ (m : Moves). record m { freed = v.own.moves.freed }) h.moves;
    answered = h.answered;
    locks = h.locks;
    front = h.front;
  }

  -- and of those with any standing but limbo
  pub left_stays : (standing : Standing) → standing ≢ Limbo → Stays standing v w
  left_stays standing other i s known is = share_left i ∙ ap (freed_of may (i - 1)) known ∙ other_one may (i - 1) s (λ e. other (sym is ∙ e))

  -- No row changes
  pub left_row : (r : RefParts) → row_in w r ≡ row_in v r
  left_row r = by r.index
    where
      by : (i : ℕ) → row_of_share (share_with w i) ≡ row_of_share (share_with v i)
      by zero = refl
      by (suc k) = ap row_of_share (share_left (suc k)) ∙ same_of may (suc k - 1) row_of_share (λ s q. refl) (share_in v (suc k))

  pub left_read : (r : RefParts) → limbo_read w r ≡ limbo_read v r
  left_read r = ap (λ (row : Row). record { reference = r; birth = row.birth; stamp = row.stamp }) (left_row r)

  pub records_left : w.setup.records ≡ v.setup.records
  records_left = ap (λ (k : Setup). k.records) h.setup

  -- Each chain word of the caller stays its own
  pub left_away : (r : RefParts) → OwnsAway v r → OwnsAway w r
  left_away r o = by (leaves_limbo may (r.index - 1) o.owns.share) refl
    where
      away_then : (b : Bool) → IsAway (cond b Spent Free)
      away_then true = tt
      away_then false = tt

      by : (b : Bool) → leaves_limbo may (r.index - 1) o.owns.share ≡ b → OwnsAway w r
      by true e = record {
        owns = record {
          is_ref = o.owns.is_ref;
          within = subst (λ (n : ℕ). r.index ≤ n) (sym records_left) o.owns.within;
          share = record o.owns.share { standing = freed_standing o.owns.share.generation };
          known = share_left r.index ∙ ap (freed_of may (r.index - 1)) o.owns.known ∙ (let x = went may (r.index - 1) o.owns.share e in goes_one may (r.index - 1) o.owns.share x.0 x.1);
          chained = chained_then (eqb o.owns.share.generation 1048575);
          generation = o.owns.generation;
          long = o.owns.long;
        };
        away = away_then (eqb o.owns.share.generation 1048575);
      }
      by false e = record {
        owns = record {
          is_ref = o.owns.is_ref;
          within = subst (λ (n : ℕ). r.index ≤ n) (sym records_left) o.owns.within;
          share = o.owns.share;
          known = share_left r.index ∙ ap (freed_of may (r.index - 1)) o.owns.known ∙ ap (λ (b : Bool). Some (cond b (record o.owns.share { standing = freed_standing o.owns.share.generation }) o.owns.share)) e;
          chained = o.owns.chained;
          generation = o.owns.generation;
          long = o.owns.long;
        };
        away = o.away;
      }

  -- so each chain of such records is the same list
  pub left_chain : (standing : Standing) (chain : Chain) → IsAway standing → IsChainOf standing v chain → IsKept (OwnsAway w) (row_in v) (row_in w) chain
  left_chain standing chain away c = chain_kept (IsAs standing v) (OwnsAway w) (row_in v) (row_in w) chain (λ q a. left_away q (record { owns = a.owns; away = subst IsAway (sym a.standing_is) away })) (λ k d b. left_row (get_or (refs_in v chain) k d)) c.list

  -- How many are idle, spent and in limbo
  pub left_idle : idle w.own + count_spent may 0 v.own.mine ≡ idle v.own + bag_count may v.own
  unfolding idle
  left_idle = ap (λ (l : List (Option Share)). count_by is_idle l + count_spent may 0 v.own.mine) h.mine ∙ idle_from may 0 v.own.mine

  pub left_spent : had is_spent w.own ≡ had is_spent v.own + count_spent may 0 v.own.mine
  left_spent = ap (count_by (is_as is_spent)) h.mine ∙ spent_from may 0 v.own.mine

  pub left_had : had is_limbo w.own + bag_count may v.own ≡ had is_limbo v.own
  left_had = ap (λ (l : List (Option Share)). count_by (is_as is_limbo) l + bag_count may v.own) h.mine ∙ limbo_from may 0 v.own.mine

  -- Each that left was freed
  pub left_freed : w.own.moves.freed ≡ v.own.moves.freed + bag_count may v.own
  left_freed = ap (λ (m : Moves). m.freed) h.moves

  pub left_count : IsLimboLeft v.own → IsLimboLeft w.own
  left_count left = let a = left_had in let b = left_freed in let c : w.own.moves.retired ≡ v.own.moves.retired = ap (λ (m : Moves). m.retired) h.moves in omega arith

  -- A record of limbo that passes is free or spent then
  pub goes_as : (r : RefParts) → IsAs Limbo v r → may (limbo_read v r) ≡ true → IsAs (freed_standing r.generation) w r
  goes_as r a passes = record {
    owns = record {
      is_ref = a.owns.is_ref;
      within = subst (λ (n : ℕ). r.index ≤ n) (sym records_left) a.owns.within;
      share = record a.owns.share { standing = freed_standing a.owns.share.generation };
      known = share_left r.index ∙ ap (freed_of may (r.index - 1)) a.owns.known ∙ goes_one may (r.index - 1) a.owns.share a.standing_is (ap may (read_is v r a.owns) ∙ passes);
      chained = chained_then (eqb a.owns.share.generation 1048575);
      generation = a.owns.generation;
      long = a.owns.long;
    };
    standing_is = ap freed_standing a.owns.generation;
    words = a.words ∙ sym (known_then (eqb r.generation 1048575));
  }
    where
      known_then : (b : Bool) → known_words (cond b Spent Free) ≡ 3
      known_then true = refl
      known_then false = refl

  -- and one that doesn't is in limbo still
  pub stays_as : (r : RefParts) → IsAs Limbo v r → may (limbo_read v r) ≡ false → IsAs Limbo w r
  stays_as r a fails = record {
    owns = record {
      is_ref = a.owns.is_ref;
      within = subst (λ (n : ℕ). r.index ≤ n) (sym records_left) a.owns.within;
      share = a.owns.share;
      known = share_left r.index ∙ ap (freed_of may (r.index - 1)) a.owns.known ∙ stays_one may (r.index - 1) a.owns.share (ap may (read_is v r a.owns) ∙ fails);
      chained = a.owns.chained;
      generation = a.owns.generation;
      long = a.owns.long;
    };
    standing_is = a.standing_is;
    words = a.words;
  }

  -- A bag none of which passes is the same list of records in limbo
  pub bag_left : (chain : Chain) → IsChainOf Limbo v chain → All (λ r. may (limbo_read v r) ≡ false) (refs_in v chain) → IsChainOf Limbo w chain × (refs_in w chain ≡ refs_in v chain)
  bag_left chain c fails = (record { list = kept.list }, kept.refs)
    where
      Fails : RefParts → Type 0
      Fails r = IsAs Limbo v r × (may (limbo_read v r) ≡ false)

      kept : IsKept (IsAs Limbo w) (row_in v) (row_in w) chain
      kept = chain_kept Fails (IsAs Limbo w) (row_in v) (row_in w) chain (λ q x. stays_as q x.0 x.1) (λ k d b. left_row (get_or (refs_in v chain) k d)) record {
        leads = c.list.leads;
        count = c.list.count;
        distinct = c.list.distinct;
        in_range = c.list.in_range;
        owned = λ k d b. (c.list.owned k d b, fails k d b);
      }
