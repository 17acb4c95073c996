-- A run that is watched and has done the first of its ops.
use mathlib.Core.Path.{ap₂}
use Rattle.std.proofs.Common.{◌≡◌, ℕ, ◌+◌, ◌<◌, ◌≤◌, ◌++◌, length, map, List, [], ◌∷◌, slice_index_or, refl, sym, ◌∙◌, ap}
use Rattle.std.proofs.Common.{subst}
use Rattle.std.proofs.Math.ListN.{drop, drop_of_length-le}
use Rattle.std.proofs.lemmas.List.{append_assoc, append-nil, at_drop_more}
use Rattle.rlsf_base.specs.Range.{range_at}
use Rattle.rlsf_base.specs.Space.{Space, range_of, SamePlace}
use Rattle.rlsf_blocks.specs.Blocks.{AreBlocks, Block}
use Rattle.rlsf_tlsf.specs.Allocator.{Allocator}
use Rattle.rlsf_trace_text.specs.declared.op.Answer.{Answer}
use Rattle.rlsf_trace_text.specs.declared.op.Op.{Op}
use Rattle.rlsf_trace_runs.specs.declared.tables.Tables.{Tables}
use Rattle.rlsf_trace_runs.specs.Runs.{run_beginning, Does, RunState}
use Rattle.rlsf_trace_runs.specs.Steps.Tables.{IsAt}
use Rattle.rlsf_trace_runs.specs.declared.moments.Moment.{Moment}
use Rattle.rlsf_trace_runs.specs.Moments.{last_of, moment_of, Passes}
use Rattle.rlsf_trace_runs.specs.Steps.Changes.{LeadsWatched}

last_of-push : (s u : RunState) (us : List RunState) → last_of s (us ++ u ∷ []) ≡ u
last_of-push s u [] = refl
last_of-push s u (x ∷ xs) = last_of-push x u xs

map-push : (us : List RunState) (u : RunState) → map moment_of (us ++ u ∷ []) ≡ map moment_of us ++ moment_of u ∷ []
map-push [] u = refl
map-push (x ∷ xs) u = ap (λ l. moment_of x ∷ l) (map-push xs u)

-- the first ops were done, with one answer and one moment each
pub record IsPassing (fllen sllen : ℕ) (m : Space) (ops : List Op) (v : Allocator) (tables : Tables) (moment : Moment) (done : ℕ) (given : List Answer)
    (told : List Moment) : Type 0 where
  pub states : List RunState
  pub state : RunState
  pub last : last_of run_beginning states ≡ state
  pub at : IsAt fllen sllen v tables state
  pub now : moment ≡ moment_of state
  pub leads : (more : List Answer) (us : List RunState) → Passes fllen sllen (range_of m) state (drop done ops) more us
      → Passes fllen sllen (range_of m) run_beginning ops (given ++ more) (states ++ us)
  pub moments : told ≡ map moment_of states
  pub place : SamePlace m v.memory

module _ {fllen sllen : ℕ} {m : Space} {ops : List Op} {v : Allocator} {tables : Tables} {moment : Moment} where
  -- at the beginning
  pub IsPassing-beginning : IsAt fllen sllen v tables run_beginning → m ≡ v.memory → moment ≡ moment_of run_beginning
      → IsPassing fllen sllen m ops v tables moment 0 [] []
  IsPassing-beginning at same now = record {
    states = [];
    state = run_beginning;
    last = refl;
    at = at;
    now = now;
    leads = λ more us passes. passes;
    moments = refl;
    place = (sym (ap (λ x. x.start) same), sym (ap (λ x. length x.bytes) same), sym (ap (λ x. x.view) same), λ none. sym (ap (λ x. x.out) same) ∙ none);
  }

  -- one op more, after more room was made
  pub IsPassing-next : {done : ℕ} {given : List Answer} {told : List Moment} (w : IsPassing fllen sllen m ops v tables moment done given told) (op : Op)
      → ((d : Op) → op ≡ slice_index_or ops done d) → done < length ops
      → (answer : Answer) (after : Moment) (w2 : Allocator) (roomy new : Tables) → ((s : RunState) → IsAt fllen sllen v tables s → IsAt fllen sllen v roomy s)
      → ((s : RunState) → IsAt fllen sllen v roomy s → LeadsWatched fllen sllen v s op moment answer after w2 new)
      → SamePlace v.memory w2.memory
      → IsPassing fllen sllen m ops w2 new after (done + 1) (given ++ answer ∷ []) (told ++ after ∷ [])
  IsPassing-next {done} {given} {told} w op is below answer after w2 roomy new makes_room does place =
      let (t, step, at, tells) = does w.state (makes_room w.state w.at) in
      let here = subst (λ r. Does fllen sllen r w.state op answer t) same step in
      let now = tells w.now in
      record {
        states = w.states ++ t ∷ [];
        state = t;
        last = last_of-push run_beginning t w.states;
        at = at;
        now = now;
        leads = λ more us passes.
            subst (λ l. Passes fllen sllen (range_of m) run_beginning ops l ((w.states ++ t ∷ []) ++ us)) (sym (append_assoc given (answer ∷ []) more))
            (subst (λ l. Passes fllen sllen (range_of m) run_beginning ops (given ++ answer ∷ more) l) (sym (append_assoc w.states (t ∷ []) us))
            (w.leads (answer ∷ more) (t ∷ us) (subst (λ l. Passes fllen sllen (range_of m) w.state l (answer ∷ more) (t ∷ us)) (sym left_ops) (here, passes))));
        moments = ap₂ (λ l x. l ++ x ∷ []) w.moments now ∙ sym (map-push w.states t);
        place = (place.0 ∙ w.place.0, place.1 ∙ w.place.1, place.2 ∙ w.place.2, λ none. place.3 (w.place.3 none));
      }
    where
      same : range_of v.memory ≡ range_of m
      same = ap₂ range_at w.place.0 w.place.1

      left_ops : drop done ops ≡ op ∷ drop (done + 1) ops
      left_ops = at_drop_more (λ l. l) ops done op below ∙ ap (λ o. o ∷ drop (done + 1) ops) (sym (is op))

  -- at the end
  pub Passes-end : {done : ℕ} {given : List Answer} {told : List Moment} (w : IsPassing fllen sllen m ops v tables moment done given told) → length ops ≤ done
      → Passes fllen sllen (range_of m) run_beginning ops given w.states
  Passes-end {done} {given} w past =
      subst (λ l. Passes fllen sllen (range_of m) run_beginning ops l w.states) (append-nil given)
      (subst (λ l. Passes fllen sllen (range_of m) run_beginning ops (given ++ []) l) (append-nil w.states)
      (w.leads [] [] (subst (λ l. Passes fllen sllen (range_of m) w.state l [] []) (sym (drop_of_length-le ops past)) tt)))

  -- the lists by other names
  pub IsPassing-told : {done : ℕ} {given more : List Answer} {told tell : List Moment} → IsPassing fllen sllen m ops v tables moment done given told → given ≡ more
      → told ≡ tell → IsPassing fllen sllen m ops v tables moment done more tell
  IsPassing-told {done} {given} {more} {told} {tell} w same_answers same_moments =
      subst (λ l. IsPassing fllen sllen m ops v tables moment done more l) same_moments (subst (λ l. IsPassing fllen sllen m ops v tables moment done l told) same_answers w)

  -- the blocks of the allocator are those of the last state
  pub all_blocks_of : {done : ℕ} {given : List Answer} {told : List Moment} (w : IsPassing fllen sllen m ops v tables moment done given told) (bs : List Block)
      → AreBlocks v.state (range_of v.memory) bs
      → AreBlocks (last_of run_beginning w.states).machine (range_of m) bs
  all_blocks_of w bs are =
      subst (λ (s : RunState). AreBlocks s.machine (range_of m) bs) (sym w.last)
      (subst (λ s. AreBlocks s (range_of m) bs) w.at.stands.state
      (subst (λ r. AreBlocks v.state r bs) (ap₂ range_at w.place.0 w.place.1) are))
