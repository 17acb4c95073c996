-- A run that has done the first of its ops.
use mathlib.Core.Path.{ap₂}
use Rattle.std.proofs.Common.{◌≡◌, ℕ, ◌+◌, ◌-◌, ◌<◌, ◌≤◌, ◌++◌, length, List, [], ◌∷◌, slice_index_or, arith, refl, sym, ◌∙◌, ap, subst}
use Rattle.std.proofs.Math.ListN.{drop, drop_of_length-le}
use Rattle.std.proofs.lemmas.List.{append_assoc, append-nil, at_drop_more}
use Rattle.rlsf_base.specs.Range.{range_at}
use Rattle.rlsf_base.specs.Space.{Space, byte_at, range_of, SamePlace}
use Rattle.rlsf_model.specs.State.{State, empty}
use Rattle.rlsf_blocks.specs.Spare.{KeepsSpare}
use Rattle.rlsf_tlsf.specs.Allocator.{Allocator}
use Rattle.rlsf_trace_text.specs.declared.op.Answer.{Answer}
use Rattle.rlsf_trace_text.specs.declared.op.Op.{Op}
use Rattle.rlsf_trace_runs.specs.declared.tables.Tables.{Tables}
use Rattle.rlsf_trace_runs.specs.Events.{RunsByEvents}
use Rattle.rlsf_trace_runs.specs.Runs.{run_beginning, Does, RunsOps, RunState}
use Rattle.rlsf_trace_runs.specs.Steps.Tables.{HaveRoomForOps, IsAt, OpLeadsOn}
use Rattle.rlsf_trace_runs.proofs.Events.{made, Makes, one_more}
use Rattle.rlsf_trace_runs.proofs.SpareBytes.{KeepsSpare-op}

-- the first ops were done, with one answer each, and there is room for the others
pub record IsUnderway (fllen sllen : ℕ) (m : Space) (ops : List Op) (v : Allocator) (tables : Tables) (done : ℕ) (given : List Answer) : Type 0 where
  pub state : RunState
  pub at : IsAt fllen sllen v tables state
  pub leads : (more : List Answer) (t : RunState) → RunsOps fllen sllen (range_of m) state (drop done ops) more t
      → RunsOps fllen sllen (range_of m) run_beginning ops (given ++ more) t
  pub events : (more : List Answer) (t : State) → RunsByEvents fllen sllen (range_of m) state.machine (drop done ops) more t
      → RunsByEvents fllen sllen (range_of m) empty ops (given ++ more) t
  pub place : SamePlace m v.memory
  pub spare : KeepsSpare m empty v.memory state.machine
  pub room : HaveRoomForOps tables (length ops - done)

module _ {fllen sllen : ℕ} {m : Space} {ops : List Op} {v : Allocator} {tables : Tables} where
  -- at the beginning
  pub IsUnderway-beginning : IsAt fllen sllen v tables run_beginning → m ≡ v.memory → HaveRoomForOps tables (length ops) → IsUnderway fllen sllen m ops v tables 0 []
  IsUnderway-beginning at same room = record {
    state = run_beginning;
    at = at;
    leads = λ more t runs. runs;
    events = λ more t runs. runs;
    place = (sym (ap (λ x. x.start) same), sym (ap (λ x. length x.bytes) same), sym (ap (λ x. x.view) same), λ none. sym (ap (λ x. x.out) same) ∙ none);
    spare = λ a from to was is. sym (ap (λ x. byte_at x a) same);
    room = subst (HaveRoomForOps tables) whole room;
  }
    where
      whole : length ops ≡ length ops - 0
      whole = omega arith

  -- one op more
  pub IsUnderway-next : {done : ℕ} {given : List Answer} (w : IsUnderway fllen sllen m ops v tables done given) (op : Op) → ((d : Op) → op ≡ slice_index_or ops done d)
      → done < length ops → (answer : Answer) (w2 : Allocator) (new : Tables)
      → ((s : RunState) → IsAt fllen sllen v tables s → OpLeadsOn fllen sllen v s op answer w2 new)
      → ((n : ℕ) → HaveRoomForOps tables (n + 1) → HaveRoomForOps new n) → SamePlace v.memory w2.memory
      → IsUnderway fllen sllen m ops w2 new (done + 1) (given ++ answer ∷ [])
  IsUnderway-next {done} {given} w op is below answer w2 new does room place =
      let (t, step, at, keeps) = does w.state w.at in
      let here = subst (λ r. Does fllen sllen r w.state op answer t) same step in
      let makes = made w.at op answer t step in
      record {
        state = t;
        at = at;
        leads = λ more u runs. subst (λ l. RunsOps fllen sllen (range_of m) run_beginning ops l u) (sym (append_assoc given (answer ∷ []) more))
            (w.leads (answer ∷ more) u (subst (λ l. RunsOps fllen sllen (range_of m) w.state l (answer ∷ more) u) (sym left_ops) (t, here, runs)));
        events = λ more u runs. subst (λ l. RunsByEvents fllen sllen (range_of m) empty ops l u) (sym (append_assoc given (answer ∷ []) more))
            (w.events (answer ∷ more) u (subst (λ l. RunsByEvents fllen sllen (range_of m) w.state.machine l (answer ∷ more) u) (sym left_ops)
            (one_more (subst (λ r. Makes fllen sllen r w.state.machine op answer t.machine) same makes) (drop (done + 1) ops) more u runs)));
        place = (place.0 ∙ w.place.0, place.1 ∙ w.place.1, place.2 ∙ w.place.2, λ none. place.3 (w.place.3 none));
        spare = KeepsSpare-op fllen sllen (range_of v.memory) m v.memory w2.memory empty w.state.machine t.machine op answer w.place makes w.spare keeps;
        room = room (length ops - (done + 1)) (subst (HaveRoomForOps tables) left w.room);
      }
    where
      same : range_of v.memory ≡ range_of m
      same = ap₂ range_at w.place.0 w.place.1

      left_ops : drop done ops ≡ op ∷ drop (done + 1) ops
      left_ops = at_drop_more (λ l. l) ops done op below ∙ ap (λ o. o ∷ drop (done + 1) ops) (sym (is op))

      left : length ops - done ≡ length ops - (done + 1) + 1
      left = omega arith

  -- at the end
  pub RunsOps-end : {done : ℕ} {given : List Answer} (w : IsUnderway fllen sllen m ops v tables done given) → length ops ≤ done
      → RunsOps fllen sllen (range_of m) run_beginning ops given w.state
  RunsOps-end {done} {given} w past = subst (λ l. RunsOps fllen sllen (range_of m) run_beginning ops l w.state) (append-nil given)
      (w.leads [] w.state (subst (λ l. RunsOps fllen sllen (range_of m) w.state l [] w.state) (sym (drop_of_length-le ops past)) refl))

  -- and by the calls of the reference model
  pub RunsByEvents-end : {done : ℕ} {given : List Answer} (w : IsUnderway fllen sllen m ops v tables done given) → length ops ≤ done
      → RunsByEvents fllen sllen (range_of m) empty ops given w.state.machine
  RunsByEvents-end {done} {given} w past = subst (λ l. RunsByEvents fllen sllen (range_of m) empty ops l w.state.machine) (append-nil given)
      (w.events [] w.state.machine (subst (λ l. RunsByEvents fllen sllen (range_of m) w.state.machine l [] w.state.machine) (sym (drop_of_length-le ops past)) ([], refl, refl)))
