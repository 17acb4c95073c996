-- A run that has done the first of its steps.
use Rattle.std.proofs.Common.{◌≡◌, ℕ, suc, ◌+◌, ◌*◌, ◌%◌, ◌^◌, ◌≤◌, Bool, Option, List, ◌++◌, length, take, replicate, arith, refl, sym}
use Rattle.std.proofs.Common.{◌∙◌, ap, subst}
use Rattle.std.proofs.Math.Seq.{take-append_seam}
use Rattle.std.proofs.lemmas.List.{length-replicate}
use Rattle.rlsf_base.specs.declared.memory.range.Range.{Range}
use Rattle.rlsf_model.specs.Insert.{Inserts}
use Rattle.rlsf_model.specs.State.{State, empty}
use Rattle.rlsf_tlsf.specs.Allocator.{Allocator, IsInState}
use Rattle.rlsf_bench_common.specs.declared.arguments.Mode.{Mode}
use Rattle.rlsf_bench_common.specs.declared.tally.Tally.{Tally}
use Rattle.rlsf_bench_common.specs.Draws.{drawn, next_state, seed, state_after}
use Rattle.rlsf_bench_common.specs.Runs.{DoesStep, IsBench, BenchState, RunsSteps, bench_beginning, empty_tally, reallocates_at, size_of}
use Rattle.rlsf_bench_common.specs.Slots.{AreSlotsAt, LeadsSlots}
use Rattle.rlsf_bench_common.proofs.SlotChanges.{AreSlotsAt-beginning}

-- as many elements as a list has, of it and another, are those that it has
pub take_all : {A : Type 0} (xs ys : List A) (n : ℕ) → length xs ≡ n → take n (xs ++ ys) ≡ xs
take_all xs ys n long = subst (λ k. take k (xs ++ ys) ≡ xs) long (take-append_seam xs ys)

-- the generator begins with the seed
pub state_after-none : state_after 0 ≡ seed
unfolding state_after
state_after-none = refl

-- one number more
pub state_after-next : (n : ℕ) → next_state (state_after n) ≡ state_after (n + 1)
unfolding state_after
state_after-next n = let more : suc n ≡ n + 1 = omega arith in subst (λ k. next_state (state_after n) ≡ state_after k) more refl

-- the first steps were done: the allocator, the slots and the tally are where they lead to, and the generator too
pub record IsUnderway (fllen sllen aligns : ℕ) (pool : Range) (size sizes : ℕ) (mode : Mode) (v : Allocator) (table : List ℕ) (counts : Tally) (draws done : ℕ) : Type 0 where
  pub taken : Option ℕ
  pub machine : State
  pub inserted : Inserts fllen empty pool taken machine
  pub state : BenchState
  pub ran : RunsSteps sllen aligns size sizes mode done (bench_beginning machine) state
  pub at : AreSlotsAt fllen sllen aligns v table counts state
  pub slots : length table ≡ size
  pub generator : draws ≡ state_after done
  pub refused : counts.refused ≤ done

module _ {fllen sllen aligns : ℕ} {pool : Range} {size sizes : ℕ} {mode : Mode} {v : Allocator} {table : List ℕ} {counts : Tally} {draws : ℕ} where
  -- before the first step
  pub IsUnderway-beginning : (taken : Option ℕ) (s : State) → Inserts fllen empty pool taken s → IsInState fllen sllen v s → table ≡ replicate size 0
      → counts ≡ empty_tally → draws ≡ seed
      → IsUnderway fllen sllen aligns pool size sizes mode v table counts draws 0
  IsUnderway-beginning taken s inserted stands none nothing_yet seeded = record {
    taken = taken;
    machine = s;
    inserted = inserted;
    state = bench_beginning s;
    ran = refl;
    at = AreSlotsAt-beginning s size stands none nothing_yet;
    slots = ap length none ∙ length-replicate size 0;
    generator = seeded ∙ sym state_after-none;
    refused = omega (arith, ap (λ t. t.refused) nothing_yet);
  }

  -- one step more
  pub IsUnderway-next : {done : ℕ} (w : IsUnderway fllen sllen aligns pool size sizes mode v table counts draws done) (reallocates : Bool) → reallocates ≡ reallocates_at mode done
      → (draw now : ℕ) → now ≡ next_state draws → draw ≡ now * 0x2545f4914f6cdd1d % 2 ^ 64
      → (u : Allocator) (new : List ℕ) (more : Tally)
      → ((s : BenchState) → AreSlotsAt fllen sllen aligns v table counts s → LeadsSlots fllen sllen aligns (length table) reallocates draw (size_of sizes draw) s u new more)
      → length new ≡ length table → more.refused ≤ counts.refused + 1 → IsUnderway fllen sllen aligns pool size sizes mode u new more now (done + 1)
  IsUnderway-next {done} w reallocates turn draw now after number u new more does long refused =
      let (t, step, at) = does w.state w.at in
      let drawing = after ∙ ap next_state w.generator in
      let same = number ∙ ap (λ x. x * 0x2545f4914f6cdd1d % 2 ^ 64) drawing in
      let turned : DoesStep sllen aligns (length table) (reallocates_at mode done) draw (size_of sizes draw) w.state t =
      subst (λ r. DoesStep sllen aligns (length table) r draw (size_of sizes draw) w.state t) turn step in
      let here : DoesStep sllen aligns size (reallocates_at mode done) (drawn done) (size_of sizes (drawn done)) w.state t =
      subst (λ n. DoesStep sllen aligns n (reallocates_at mode done) (drawn done) (size_of sizes (drawn done)) w.state t) w.slots
      (subst (λ d. DoesStep sllen aligns (length table) (reallocates_at mode done) d (size_of sizes d) w.state t) same turned) in
      let last : suc done ≡ done + 1 = omega arith in
      record {
        taken = w.taken;
        machine = w.machine;
        inserted = w.inserted;
        state = t;
        ran = subst (λ n. RunsSteps sllen aligns size sizes mode n (bench_beginning w.machine) t) last (w.state, w.ran, here);
        at = at;
        slots = long ∙ w.slots;
        generator = drawing ∙ state_after-next done;
        refused = omega (arith, refused, w.refused);
      }

-- after the last step
pub IsBench-end : {fllen sllen aligns : ℕ} {pool : Range} {size sizes : ℕ} {mode : Mode} {v : Allocator} {table : List ℕ} {counts : Tally} {draws done : ℕ}
    → IsUnderway fllen sllen aligns pool size sizes mode v table counts draws done
    → IsBench fllen sllen aligns pool size sizes done mode counts
IsBench-end w = record { taken = w.taken; machine = w.machine; inserted = w.inserted; last = w.state; ran = w.ran; counts = w.at.tally }
