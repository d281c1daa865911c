-- How far lines were read, and what further lines make of that.
use Rattle.std.proofs.Common.{◌≡◌, ℕ, List, [], ◌∷◌, ◌++◌, length, map, refl, sym, ap, subst, ◌∙◌, append_assoc, arith}
use Rattle.std.proofs.lemmas.List.{append-nil, map-append}
use Rattle.std.proofs.lemmas.List.Concat.{flat_map-append}
use Rattle.set_model.specs.declared.calls.Call.{Call}
use Rattle.text_lines.specs.Lines.{line, lines_text}
use Rattle.workload_text.specs.Cuts.{cut_at, AreCuts}
use Rattle.text_lines.specs.Calls.{call_text}
use Rattle.workload_text.specs.Text.{Line, call_line, caller_line, phase_line, spelled, spelled_lines, phases_lines, callers_lines}
use Rattle.workload_text.specs.Following.{Place, at_start, MayFollow, MayAllFollow, place_after, place_after_all}
use Rattle.workload_text.proofs.Runs.{place_after-append, follow-append}
use Rattle.workload_text.proofs.CutLemmas.{callers_last, phases_calls, phases_phase}

pub spelled-append : (xs ys : List Line) → spelled_lines (xs ++ ys) ≡ spelled_lines xs ++ spelled_lines ys
spelled-append xs ys = ap lines_text (map-append spelled xs ys) ∙ flat_map-append line (map spelled xs) (map spelled ys)

pub spelled_calls : (calls : List Call) → lines_text (map call_text calls) ≡ spelled_lines (map call_line calls)
spelled_calls [] = refl
spelled_calls (call ∷ calls) = ap (λ (t : List ℕ). line (call_text call) ++ t) (spelled_calls calls)

pub spelled_one : (x : Line) → line (spelled x) ≡ spelled_lines (x ∷ [])
spelled_one x = sym (append-nil (line (spelled x)))

-- lines that may all follow, which the bytes begin with
pub record Reaches (bytes : List ℕ) (lines : List Line) (place : Place) (rest : List ℕ) : Type 0 where
  pub follow : MayAllFollow at_start lines
  pub at : place_after_all at_start lines ≡ place
  pub same : bytes ≡ spelled_lines lines ++ rest

pub reaches_more : (bytes rest behind : List ℕ) (old new more : List Line) (place next : Place) → Reaches bytes old place rest → new ≡ old ++ more → rest ≡ spelled_lines more ++ behind → MayAllFollow place more → place_after_all place more ≡ next → Reaches bytes new next behind
reaches_more bytes rest behind old new more place next h e text follow at =
    let all : MayAllFollow at_start (old ++ more) = follow-append at_start old more h.follow (subst (λ (p : Place). MayAllFollow p more) (sym h.at) follow) in
    let reached = place_after-append at_start old more ∙ ap (λ (p : Place). place_after_all p more) h.at ∙ at in
    let spelling = h.same ∙ ap (λ (t : List ℕ). spelled_lines old ++ t) text ∙ sym (append_assoc (spelled_lines old) (spelled_lines more) behind) ∙ ap (λ (t : List ℕ). t ++ behind) (sym (spelled-append old more)) in
    record {
      follow = subst (MayAllFollow at_start) (sym e) all;
      at = ap (place_after_all at_start) e ∙ reached;
      same = spelling ∙ ap (λ (ls : List Line). spelled_lines ls ++ behind) (sym e);
    }

pub reaches_one : (bytes rest behind : List ℕ) (old new : List Line) (x : Line) (place : Place) → Reaches bytes old place rest → new ≡ old ++ x ∷ [] → rest ≡ line (spelled x) ++ behind → MayFollow place x → Reaches bytes new (place_after place x) behind
reaches_one bytes rest behind old new x place h e text m =
    reaches_more bytes rest behind old new (x ∷ []) place (place_after place x) h e (text ∙ ap (λ (t : List ℕ). t ++ behind) (spelled_one x)) (m, tt) refl

-- ---- the lines of callers, the last of whom is read

module _ (lists : List (List (List Call))) (cuts : List ℕ) (calls : List Call) (h : AreCuts 0 cuts (length calls)) where
  done : List Line
  done = callers_lines 0 lists

  last_lines : (phases : List (List Call)) → callers_lines 0 (lists ++ phases ∷ []) ≡ callers_lines 0 lists ++ caller_line (length lists) ∷ phases_lines phases
  last_lines phases = callers_last 0 lists phases (length lists) (omega arith)

  further : (old new : List (List Call)) (more : List Line) → phases_lines new ≡ phases_lines old ++ more → callers_lines 0 (lists ++ new ∷ []) ≡ callers_lines 0 (lists ++ old ∷ []) ++ more
  further old new more e =
      last_lines new ∙ ap (λ (ls : List Line). callers_lines 0 lists ++ caller_line (length lists) ∷ ls) e
      ∙ sym (append_assoc (callers_lines 0 lists) (caller_line (length lists) ∷ phases_lines old) more) ∙ ap (λ (ls : List Line). ls ++ more) (sym (last_lines old))

  pub further_calls : (more : List Call) → callers_lines 0 (lists ++ cut_at cuts (calls ++ more) ∷ []) ≡ callers_lines 0 (lists ++ cut_at cuts calls ∷ []) ++ map call_line more
  further_calls more = further (cut_at cuts calls) (cut_at cuts (calls ++ more)) (map call_line more) (phases_calls cuts calls more h)

  pub further_phase : callers_lines 0 (lists ++ cut_at (cuts ++ length calls ∷ []) calls ∷ []) ≡ callers_lines 0 (lists ++ cut_at cuts calls ∷ []) ++ phase_line ∷ []
  further_phase = further (cut_at cuts calls) (cut_at (cuts ++ length calls ∷ []) calls) (phase_line ∷ []) (phases_phase cuts calls h)

pub further_caller : (lists : List (List (List Call))) (number : ℕ) → length lists ≡ number → callers_lines 0 (lists ++ ([] ∷ []) ∷ []) ≡ callers_lines 0 lists ++ caller_line number ∷ []
further_caller lists number e = callers_last 0 lists ([] ∷ []) number (omega arith)

pub behind_head : (v n : Line) (xs ys more : List Line) → xs ≡ ys ++ more → v ∷ n ∷ xs ≡ (v ∷ n ∷ ys) ++ more
behind_head v n xs ys more e = ap (λ (ls : List Line). v ∷ n ∷ ls) e
