-- What an op on a named payload leaves of the run's tables.
use Rattle.std.proofs.Common.{◌≡◌, ℕ, ◌+◌, ◌≤◌, nat_eq, true, false, true≢false, Option, Some, None, IsSome, List, length, refl, sym, ◌∙◌, ap, subst}
use Rattle.std.proofs.Common.{arith}
use Rattle.std.specs.HashMap.{get}
use Rattle.std.specs.Prelude.{IsPermutation, IfSome}
use Rattle.std.specs.Option.{is_some, option_map}
use Rattle.rlsf_base.specs.declared.memory.range.Range.{Range}
use Rattle.rlsf_base.specs.Range.{LiesIn}
use Rattle.rlsf_base.specs.Space.{range_of, SamePlace}
use Rattle.rlsf_model.specs.Lists.{IsIn}
use Rattle.rlsf_model.specs.Reallocate.{Plan, plan, Reallocates, ReallocatesBy}
use Rattle.rlsf_model.specs.Release.{Deallocates}
use Rattle.rlsf_model.specs.State.{State, Used, Holds, IsLive, usable}
use Rattle.rlsf_model.specs.WellFormed.{coverage, itself}
use Rattle.rlsf_model.specs.Callers.{align_at}
use Rattle.rlsf_model.proofs.CallerWords.{align_at-live}
use Rattle.rlsf_model.proofs.ChunkRows.{IsRow-same}
use Rattle.rlsf_model.proofs.Live.{deallocation_leaves_others, fill_leaves_others}
use Rattle.rlsf_model.specs.Run.{Fills}
use Rattle.rlsf_blocks.specs.Spare.{KeepsSpare}
use Rattle.rlsf_tlsf.specs.Allocator.{Allocator, IsInState, Steps}
use Rattle.rlsf_tlsf.proofs.Standing.{live_in, stepped}
use Rattle.rlsf_trace_text.specs.declared.op.Answer.{Answer}
use Rattle.rlsf_trace_text.specs.declared.op.Op.{Op}
use Rattle.rlsf_trace_runs.specs.declared.names.Payload.{Payload}
use Rattle.rlsf_trace_runs.specs.declared.tables.Tables.{Tables}
use Rattle.rlsf_trace_runs.specs.Names.{address, AreNamed}
use Rattle.rlsf_trace_runs.specs.Runs.{Does, FreesName, Owns, RunState, run_with_machine}
use Rattle.rlsf_trace_runs.specs.Steps.Pools.{ArePoolsApart, AreInRuns}
use Rattle.rlsf_trace_runs.specs.Steps.Tables.{HaveRoomForOps, IsAt, OpLeadsOn}
use Rattle.rlsf_trace_runs.proofs.Named.{AreNamed-filled, AreNamed-freed, AreNamed-kept, IsSetAt, owned_live}

-- what a test for a payload didn't find
pub none_is : {A : Type 0} (o : Option A) → is_some o ≡ false → o ≡ None
none_is None e = refl
none_is (Some x) e = absurd (true≢false e)

-- what it found is some payload, whatever is read of it
pub some_is : {A B : Type 0} (f : A → B) (o : Option A) → is_some o ≡ true → IsSome (option_map f o)
some_is f None e = absurd (true≢false (sym e))
some_is f (Some x) e = refl

-- tables with room for one op more have room for these ops
pub room_left : (tables : Tables) (ops : ℕ) → HaveRoomForOps tables (ops + 1) → HaveRoomForOps tables ops
room_left tables ops room = record { names = omega (arith, room.names); pools = omega (arith, room.pools) }

module _ {fllen sllen : ℕ} {v : Allocator} {tables : Tables} {s : RunState} (at : IsAt fllen sllen v tables s) where
  -- a payload of the table has a block that its name owns, which has as many bytes as are usable
  pub owned : (name : ℕ) (p : Payload) → get nat_eq tables.names name ≡ Some p
      → (u : Used) × Owns s name u × Holds s.machine (address p) u × (length u.bytes ≡ (usable u).len)
  owned name p is =
      let (u, owns, holds, _) = owned_live at.named name p is in
      (u, owns, holds, (at.stands.stands.well_formed.used u owns.0).bytes)

  -- each payload that a name is found to have is live with its alignment
  pub found_live : (name : ℕ) (found : Option Payload) → found ≡ get nat_eq tables.names name
      → IfSome found (λ p. align_at v.state (address p) ≡ Some p.align)
  found_live name None is = tt
  found_live name (Some p) is = live_in at.stands (address p) p.align (at.named.live name p (sym is))

  -- an op that changes nothing
  pub LeadsOn-nothing : (op : Op) (answer : Answer) → Does fllen sllen (range_of v.memory) s op answer s → OpLeadsOn fllen sllen v s op answer v tables
  LeadsOn-nothing op answer does = (s, does, at, λ a from to was is. refl)

  -- where other payloads may be named, but the chunks stay
  pub IsAt-named : {w : Allocator} {new : Tables} {named : ℕ → Option ℕ} → SamePlace v.memory w.memory → (t : State) → IsInState fllen sllen w t
      → t.chunks ≡ s.machine.chunks → new.pools ≡ tables.pools
      → AreNamed t new.names named → IsAt fllen sllen w new (record { machine = t; named = named; pools = s.pools })
  IsAt-named {w} {new} place t stands chunks same are = record {
    stands = stands;
    named = are;
    pools = subst (λ p. IsPermutation s.pools p.ranges.items) (sym same) at.pools;
    apart = subst (λ p. ArePoolsApart p.ranges.items) (sym same) at.apart;
    in_runs = subst (λ p. AreInRuns p.ranges.items p.firsts.items) (sym same) at.in_runs;
    inside = λ p i. moved p (at.inside p (subst (λ table. IsIn p table.ranges.items) same i));
    covered = λ a. subst (λ cs. coverage itself cs a ≤ coverage itself s.pools a) (sym chunks) (at.covered a);
    rows = λ p i. IsRow-same s.machine t p chunks (at.rows p i);
  }
    where
      moved : (p : Range) → LiesIn p v.memory.start (length v.memory.bytes) → LiesIn p w.memory.start (length w.memory.bytes)
      moved p (from, to) = (omega (arith, from, place.0), omega (arith, to, place))

  -- after a fill
  pub IsAt-filled : {w : Allocator} → SamePlace v.memory w.memory → (t : State) → IsInState fllen sllen w t → (addr : ℕ) (bytes : List ℕ)
      → Fills s.machine addr bytes t → IsAt fllen sllen w tables (run_with_machine s t)
  IsAt-filled place t stands addr bytes step =
      IsAt-named place t stands (fill_leaves_others s.machine t addr bytes step).0 refl
      (AreNamed-filled at.named fllen sllen (range_of v.memory) t addr bytes at.stands.stands.well_formed step)

  -- after a step that leaves the chunks and every alignment
  pub IsAt-aligned : {w : Allocator} → SamePlace v.memory w.memory → (t : State) → IsInState fllen sllen w t → w.state.chunks ≡ v.state.chunks
      → align_at w.state ≡ align_at v.state → IsAt fllen sllen w tables (run_with_machine s t)
  IsAt-aligned {w} place t stands chunks aligns =
      IsAt-named place t stands (ap (λ x. x.chunks) (sym stands.state) ∙ chunks ∙ ap (λ x. x.chunks) at.stands.state) refl
      (AreNamed-kept at.named t
      (λ addr align live. subst (λ x. IsLive x addr align) stands.state (align_at-live w.state addr align (ap (λ f. f addr) aligns ∙ live_in at.stands addr align live))))

  -- after a step that changed nothing
  pub IsAt-unmoved : {w : Allocator} → SamePlace v.memory w.memory → (t : State) → IsInState fllen sllen w t → t ≡ s.machine
      → IsAt fllen sllen w tables (record { machine = t; named = s.named; pools = s.pools })
  IsAt-unmoved place t stands is = IsAt-named place t stands (ap (λ u. u.chunks) is) refl (subst (λ u. AreNamed u tables.names s.named) (sym is) at.named)

  -- the payload of a name was deallocated
  pub freed : {w : Allocator} {new : Tables} → SamePlace v.memory w.memory → (t : State) → IsInState fllen sllen w t → KeepsSpare v.memory s.machine w.memory t
      → (name : ℕ) (p : Payload)
      → get nat_eq tables.names name ≡ Some p → Deallocates s.machine (address p) t → new.pools ≡ tables.pools → IsSetAt name None tables.names new.names
      → (r : RunState) × FreesName s name r × IsAt fllen sllen w new r × KeepsSpare v.memory s.machine w.memory r.machine
  freed place t stands keeps name p there step same taken =
      let (u, owns, holds, _) = owned name p there in (
        _,
        (u, owns, t, subst (λ a. Deallocates s.machine a t) (sym holds.1) step, refl),
        IsAt-named place t stands (deallocation_leaves_others s.machine t (address p) step).0 same
            (AreNamed-freed at.named t name (address p) (owns.1 ∙ ap Some holds.1) step taken),
        keeps,
      )

  -- so it is where an allocator's call deallocated it
  pub freed_by : {new : Tables} (w : Allocator) → SamePlace v.memory w.memory → (name : ℕ) (p : Payload) → get nat_eq tables.names name ≡ Some p
      → Steps fllen sllen v w (Deallocates v.state (address p)) → new.pools ≡ tables.pools → IsSetAt name None tables.names new.names
      → (r : RunState) × FreesName s name r × IsAt fllen sllen w new r × KeepsSpare v.memory s.machine w.memory r.machine
  freed_by w place name p there step same taken =
      let (t, does, stands, keeps) = stepped at.stands w (λ x. Deallocates x (address p)) step in freed place t stands keeps name p there does same taken

-- one that is refused changes nothing
pub reallocation_refused : (sllen : ℕ) (s t : State) (addr size : ℕ) → Reallocates sllen s addr size None t → t ≡ s
reallocation_refused sllen s t addr size step = by_plan (plan s step.block size) step.step
  where
    by_plan : (o : Option Plan) → ReallocatesBy sllen s step.block size o None t → t ≡ s
    by_plan (Some p) way = absurd way
    by_plan None way = way.1
