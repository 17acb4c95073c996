-- A run that is printed as it goes, and has done the first of its ops.
use mathlib.Core.Path.{ap₂}
use Rattle.std.proofs.Common.{◌≡◌, ℕ, ◌+◌, ◌<◌, ◌≤◌, ◌++◌, length, List, [], ◌∷◌, slice_index_or, refl, sym, ◌∙◌, ap, subst}
use Rattle.std.proofs.Math.ListN.{drop, drop_of_length-le}
use Rattle.std.proofs.lemmas.List.{append_assoc, append-nil, at_drop_more}
use Rattle.rlsf_base.specs.Range.{range_at}
use Rattle.rlsf_base.specs.Space.{Space, range_of, SamePlace}
use Rattle.rlsf_tlsf.specs.Allocator.{Allocator}
use Rattle.rlsf_trace_text.specs.declared.op.Answer.{Answer}
use Rattle.rlsf_trace_text.specs.declared.op.Op.{Op}
use Rattle.rlsf_trace_text.specs.Printing.{line_text, text_of}
use Rattle.rlsf_trace_runs.specs.declared.tables.Tables.{Tables}
use Rattle.rlsf_trace_runs.specs.Runs.{run_beginning, Does, RunsOps, RunState}
use Rattle.rlsf_trace_runs.specs.Steps.Tables.{IsAt, OpLeadsOn}
use Rattle.rlsf_trace_runs.specs.Replays.{IsPrintedRun}

-- the first ops were done, with one answer each, and the text has their lines
pub record IsPrinting (fllen sllen : ℕ) (m : Space) (ops : List Op) (v : Allocator) (tables : Tables) (done : ℕ) (text : List ℕ) : Type 0 where
  pub state : RunState
  pub given : List Answer
  pub at : IsAt fllen sllen v tables state
  pub leads : (more : List Answer) (t : RunState) → RunsOps fllen sllen (range_of m) state (drop done ops) more t
      → RunsOps fllen sllen (range_of m) run_beginning ops (given ++ more) t
  pub printed : (more : List Answer) → text_of ops (given ++ more) ≡ text ++ text_of (drop done ops) more
  pub place : SamePlace m v.memory

module _ {fllen sllen : ℕ} {m : Space} {ops : List Op} {v : Allocator} {tables : Tables} where
  -- at the beginning
  pub IsPrinting-beginning : IsAt fllen sllen v tables run_beginning → m ≡ v.memory → (text : List ℕ) → text ≡ [] → IsPrinting fllen sllen m ops v tables 0 text
  IsPrinting-beginning at same text none = subst (IsPrinting fllen sllen m ops v tables 0) (sym none) (record {
    state = run_beginning;
    given = [];
    at = at;
    leads = λ more t runs. runs;
    printed = λ more. refl;
    place = (sym (ap (λ x. x.start) same), sym (ap (λ x. length x.bytes) same), sym (ap (λ x. x.view) same), λ none. sym (ap (λ x. x.out) same) ∙ none);
  })

  -- one op more
  pub IsPrinting-next : {done : ℕ} {text : List ℕ} (w : IsPrinting fllen sllen m ops v tables done text) (op : Op) → ((d : Op) → op ≡ slice_index_or ops done d)
      → done < length ops → (answer : Answer) (roomy : Tables) (w2 : Allocator) (new : Tables) → ((s : RunState) → IsAt fllen sllen v tables s → IsAt fllen sllen v roomy s)
      → ((s : RunState) → IsAt fllen sllen v roomy s → OpLeadsOn fllen sllen v s op answer w2 new) → SamePlace v.memory w2.memory
      → (line more : List ℕ) → line ≡ text ++ line_text op answer → more ≡ line ++ 10 ∷ [] → IsPrinting fllen sllen m ops w2 new (done + 1) more
  IsPrinting-next {done} {text} w op is below answer roomy w2 new room does place line more printed ended =
      let (t, step, at, _) = does w.state (room w.state w.at) in
      let here = subst (λ r. Does fllen sllen r w.state op answer t) same step in
      record {
        state = t;
        given = w.given ++ answer ∷ [];
        at = at;
        leads = λ others u runs. subst (λ l. RunsOps fllen sllen (range_of m) run_beginning ops l u) (sym (append_assoc w.given (answer ∷ []) others))
            (w.leads (answer ∷ others) u (subst (λ l. RunsOps fllen sllen (range_of m) w.state l (answer ∷ others) u) (sym left_ops) (t, here, runs)));
        printed = λ others.
            ap (text_of ops) (append_assoc w.given (answer ∷ []) others)
            ∙ w.printed (answer ∷ others)
            ∙ ap (λ l. text ++ text_of l (answer ∷ others)) left_ops
            ∙ sym (append_assoc text (line_text op answer ++ 10 ∷ []) (text_of (drop (done + 1) ops) others))
            ∙ ap (λ l. l ++ text_of (drop (done + 1) ops) others) whole_line;
        place = (place.0 ∙ w.place.0, place.1 ∙ w.place.1, place.2 ∙ w.place.2, λ none. place.3 (w.place.3 none));
      }
    where
      same : range_of v.memory ≡ range_of m
      same = ap₂ range_at w.place.0 w.place.1

      left_ops : drop done ops ≡ op ∷ drop (done + 1) ops
      left_ops = at_drop_more (λ l. l) ops done op below ∙ ap (λ o. o ∷ drop (done + 1) ops) (sym (is op))

      whole_line : text ++ (line_text op answer ++ 10 ∷ []) ≡ more
      whole_line = sym (append_assoc text (line_text op answer) (10 ∷ [])) ∙ ap (λ l. l ++ 10 ∷ []) (sym printed) ∙ sym ended

  -- at the end
  pub IsPrinting-end : {done : ℕ} {text : List ℕ} (w : IsPrinting fllen sllen m ops v tables done text) → length ops ≤ done
      → IsPrintedRun fllen sllen (range_of m) ops text
  IsPrinting-end {done} {text} w past = (w.given, (w.state, ran), sym printed)
    where
      none_left : drop done ops ≡ []
      none_left = drop_of_length-le ops past

      ran : RunsOps fllen sllen (range_of m) run_beginning ops w.given w.state
      ran = subst (λ l. RunsOps fllen sllen (range_of m) run_beginning ops l w.state) (append-nil w.given)
          (w.leads [] w.state (subst (λ l. RunsOps fllen sllen (range_of m) w.state l [] w.state) (sym none_left) refl))

      printed : text_of ops w.given ≡ text
      printed = ap (text_of ops) (sym (append-nil w.given)) ∙ w.printed [] ∙ ap (λ l. text ++ text_of l []) none_left ∙ append-nil text
