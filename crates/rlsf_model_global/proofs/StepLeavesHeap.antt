-- What a step of a heap leaves: a heap, and each payload that it doesn't name.
use Rattle.std.proofs.Common.{◌≡◌, ◌≢◌, ◌⊎◌, ℕ, ◌+◌, ◌<◌, ◌≤◌, length, List, [], Some, None, IsSome, arith, refl, sym, ◌∙◌, ap, subst, inl, inr, ◌++◌}
use Rattle.std.proofs.lemmas.Bool.{cases_eq}
use Rattle.std.proofs.lemmas.Option.{none-some, same_Some}
use Rattle.std.specs.List.{splice}
use Rattle.std.specs.declared.num.NonZeroUsize.{NonZeroUsize}
use Rattle.std.specs.Prelude.{take, drop}
use Rattle.rlsf_base.specs.Addr.{at}
use Rattle.rlsf_base.specs.declared.memory.layout.Layout.{Layout}
use Rattle.rlsf_base.specs.declared.memory.range.Range.{Range}
use Rattle.rlsf_model.specs.Callers.{Payload, ServesLayout, IsResizedInMap, align_at, bytes_at, payload_at}
use Rattle.rlsf_model.specs.FlexRun.{AsksNothing}
use Rattle.rlsf_model.specs.FlexState.{FlexState, with_machine}
use Rattle.rlsf_model.specs.FlexWellFormed.{IsFlexWellFormed}
use Rattle.rlsf_model.specs.Note.{Note}
use Rattle.rlsf_model.specs.Run.{IsSomeLive, allocate as machine_allocates, deallocate as machine_deallocates, fill as machine_fills, reallocate as machine_reallocates}
use Rattle.rlsf_model.specs.State.{State}
use Rattle.rlsf_model.proofs.CallerWords.{align_at-map, align_at-some, align_at-none, align_at-told, bytes_at-map, bytes_at-told, filled_seen}
use Rattle.rlsf_model_global.specs.Cursor.{PageCursor, terms_of}
use Rattle.rlsf_model_global.specs.Heap.{Agrees, Heap, Lists}
use Rattle.rlsf_model_global.specs.Moves.{Replaces}
use Rattle.rlsf_model_global.specs.Pages.{IsPageCursor, MayOwe}
use Rattle.rlsf_model_global.specs.Rows.{IsSorted, Row, put, row_at, without_row}
use Rattle.rlsf_model_global.specs.Standing.{IsHeap}
use Rattle.rlsf_model_global.specs.Steps.{Releases, Takes, WritesIn}
use Rattle.rlsf_model_global.proofs.StepLeavesFlex.{FlexGoes, flex_goes}
use Rattle.rlsf_model_global.proofs.Maps.{IsServed, Lists-filled, Lists-moved, Lists-put, Lists-without_row, agrees-none}
use Rattle.rlsf_model_global.proofs.Maps.{row_at-put_other, row_at-without_here, row_at-without_other}
use Rattle.rlsf_model_global.proofs.Rows.{absent-row_at, put-sorted, without_row-sorted}

-- the payload at the address and its entry are as they were
pub record Stays (a : ℕ) (h g : Heap) : Type 0 where
  pub payload : payload_at g.flex.machine a ≡ payload_at h.flex.machine a
  pub row : row_at a g.asked ≡ row_at a h.asked

-- a heap is left, and so is each payload except for those that are named
pub record Goes (memory : Range) (h g : Heap) (named : ℕ → Type 0) : Type 0 where
  pub heap : IsHeap memory g
  pub others : (a : ℕ) → (named a → ⊥) → Stays a h g

-- a payload that serves the layout
served : (m : State) (a : ℕ) (layout : Layout) (p : Payload) → payload_at m a ≡ Some p → ServesLayout layout.size layout.align p → IsServed m a layout
served m a layout p is serves =
    let here = bytes_at-told m a p is in
    record {
      live = align_at-told m a p is ∙ ap Some serves.aligned;
      sized = subst (λ (l : List ℕ). layout.size ≤ length l) (sym here) serves.enough;
      few = subst (λ (l : List ℕ). length l < layout.size + 32) (sym here) serves.few;
    }

-- where an entry is, a payload is
pub live_row : (h : Heap) (addr : ℕ) (row : Row) → Lists h.asked h.flex.machine → row_at addr h.asked ≡ Some row → align_at h.flex.machine addr ≡ Some row.1.align
live_row h addr row lists is = (subst (λ o. Agrees o (align_at h.flex.machine addr) (bytes_at h.flex.machine addr)) is (lists addr)).0

pub row_lives : (h : Heap) (addr : ℕ) (row : Row) → Lists h.asked h.flex.machine → row_at addr h.asked ≡ Some row → IsSomeLive h.flex.machine addr
row_lives h addr row lists is = align_at-some h.flex.machine addr (subst IsSome (sym (live_row h addr row lists is)) refl)

-- where no payload is, no entry is
pub no_row : (h : Heap) (a : ℕ) → Lists h.asked h.flex.machine → payload_at h.flex.machine a ≡ None → row_at a h.asked ≡ None
no_row h a lists none =
    agrees-none (row_at a h.asked) (bytes_at h.flex.machine a)
    (subst (λ o. Agrees (row_at a h.asked) o (bytes_at h.flex.machine a)) (align_at-none h.flex.machine a none) (lists a))

-- another address than one with an entry, where no payload was
apart_from : (h : Heap) (addr to : ℕ) (row : Row) → Lists h.asked h.flex.machine → row_at addr h.asked ≡ Some row → payload_at h.flex.machine to ≡ None → to ≢ addr
apart_from h addr to row lists is none same =
    none-some row.1.align (sym (align_at-none h.flex.machine to none) ∙ ap (align_at h.flex.machine) same ∙ live_row h addr row lists is)

-- a payload is in another, which was allocated where none was and has the old one's first bytes, and the old one is gone
pub record IsReplaced (memory : Range) (h : Heap) (state : FlexState) (source : PageCursor) (addr to keep : ℕ) (wanted : Layout) : Type 0 where
  pub flex : IsFlexWellFormed 64 64 memory (terms_of source) state
  pub cursor : IsPageCursor source
  pub owed : MayOwe source state.pools
  pub apart : to ≢ addr
  pub new : payload_at h.flex.machine to ≡ None
  pub now : Payload
  pub here : payload_at state.machine to ≡ Some now
  pub serves : ServesLayout wanted.size wanted.align now
  pub rest : List ℕ
  pub bytes : now.bytes ≡ (take keep (bytes_at h.flex.machine addr) ++ drop keep rest)
  pub gone : payload_at state.machine addr ≡ None
  pub others : (a : ℕ) → a ≢ addr → a ≢ to → payload_at state.machine a ≡ payload_at h.flex.machine a

pub replacement : {memory : Range} (h : Heap) → IsHeap memory h → (addr : ℕ) (row : Row) → row_at addr h.asked ≡ Some row
    → (flex : FlexState) (source : PageCursor) (to keep : ℕ) (wanted : Layout)
    → Replaces h addr keep wanted.size wanted.align to flex source → IsReplaced memory h flex source addr to keep wanted
replacement {memory} h w addr row there flex source to keep wanted r =
    let (notes, step, led) = r.takes in
    let copied = with_machine r.meanwhile r.copied in
    let freed = with_machine r.meanwhile r.freed in
    let rest = bytes_at r.meanwhile.machine to in
    let bytes = (take keep (bytes_at r.meanwhile.machine addr) ++ drop keep rest) in
    let one =
    flex_goes h.source source w.owed.cursor h.flex w.flex w.owed r.meanwhile notes led (machine_allocates wanted.size wanted.align (Some to)) tt wanted.valid.aligned step in
    let fills : AsksNothing 64 64 r.meanwhile (machine_fills to bytes) [] copied = record { machine = r.copied; leads = r.copies; none = refl; after = refl } in
    let two = flex_goes source source one.cursor r.meanwhile one.flex one.owed copied [] refl (machine_fills to bytes) tt (r.copies.block, r.copies.holds) fills in
    let frees : AsksNothing 64 64 copied (machine_deallocates addr) [] freed = record { machine = r.freed; leads = r.frees; none = refl; after = refl } in
    let three = flex_goes source source two.cursor copied two.flex two.owed freed [] refl (machine_deallocates addr) tt (r.frees.block, r.frees.holds) frees in
    let (p, none, serves, set) = one.changes in
    let (q, was, long, filled) = two.changes in
    let (z, stood, gone) = three.changes in
    let apart : to ≢ addr = apart_from h addr to row w.lists there none in
    let same : q ≡ p = same_Some q p (sym was ∙ set.here) in
    let len : length bytes ≡ length p.bytes = long ∙ ap (λ (x : Payload). length x.bytes) same in
    let old : bytes_at r.meanwhile.machine addr ≡ bytes_at h.flex.machine addr =
    bytes_at-map h.flex.machine r.meanwhile.machine addr addr (set.others addr (λ e. apart (sym e))) in
    subst (λ (x : FlexState). IsReplaced memory h x source addr to keep wanted) (sym r.after) (record {
      flex = three.flex;
      cursor = three.cursor;
      owed = three.owed;
      apart = apart;
      new = none;
      now = record { align = q.align; bytes = bytes };
      here = gone.others to apart ∙ filled.here;
      serves = record { aligned = ap (λ (x : Payload). x.align) same ∙ serves.aligned; enough = omega (arith, serves.enough, len); few = omega (arith, serves.few, len) };
      rest = rest;
      bytes = ap (λ l. (take keep l ++ drop keep rest)) old;
      gone = gone.here;
      others = λ a off off_to. gone.others a off ∙ filled.others a off_to ∙ set.others a off_to;
    })

module _ {memory : Range} (h : Heap) (w : IsHeap memory h) where
  -- nothing changes
  pub stays_all : (named : ℕ → Type 0) (g : Heap) → g ≡ h → Goes memory h g named
  stays_all named g same =
      record {
        heap = subst (IsHeap memory) (sym same) w;
        others = λ a off. record { payload = ap (λ (x : Heap). payload_at x.flex.machine a) same; row = ap (λ (x : Heap). row_at a x.asked) same };
      }

  -- a payload more
  pub allocated : (g : Heap) (addr : NonZeroUsize) (layout : Layout) → Takes h layout.size layout.align (Some (at addr)) g.flex g.source
      → g.asked ≡ put (addr, layout) h.asked → Goes memory h g (λ a. at addr ≡ a)
  allocated g addr layout (notes, step, led) asked =
      let is =
      flex_goes h.source g.source w.owed.cursor h.flex w.flex w.owed g.flex notes led (machine_allocates layout.size layout.align (Some (at addr))) tt layout.valid.aligned
      step in
      let (p, none, serves, set) = is.changes in
      record {
        heap = record {
          flex = is.flex;
          owed = is.owed;
          sorted = subst IsSorted (sym asked) (put-sorted (addr, layout) h.asked w.sorted (absent-row_at (at addr) h.asked (no_row h (at addr) w.lists none)));
          lists = subst (λ l. Lists l g.flex.machine) (sym asked)
              (Lists-put h.asked h.flex.machine g.flex.machine w.lists (addr, layout) (served g.flex.machine (at addr) layout p set.here serves)
              (λ a off. align_at-map h.flex.machine g.flex.machine a a (set.others a off)) (λ a off. bytes_at-map h.flex.machine g.flex.machine a a (set.others a off)));
        };
        others = λ a off.
            let apart : a ≢ at addr = λ same. off (sym same) in
            record { payload = set.others a apart; row = ap (row_at a) asked ∙ row_at-put_other (addr, layout) h.asked a apart };
      }

  -- a payload less
  pub released : (g : Heap) (addr : ℕ) → Releases h addr g → Goes memory h g (λ a. addr ≡ a)
  released g addr (m, step, after) = subst (λ (x : Heap). Goes memory h x (λ a. addr ≡ a)) (sym after) (
      let u = with_machine h.flex m in
      let alone : AsksNothing 64 64 h.flex (machine_deallocates addr) [] u = record { machine = m; leads = step; none = refl; after = refl } in
      let is = flex_goes h.source h.source w.owed.cursor h.flex w.flex w.owed u [] refl (machine_deallocates addr) tt (step.block, step.holds) alone in
      let (p, was, set) = is.changes in
      record {
        heap = record {
          flex = is.flex;
          owed = is.owed;
          sorted = without_row-sorted addr h.asked w.sorted;
          lists = Lists-without_row h.asked h.flex.machine m w.lists addr (align_at-none m addr set.here)
              (λ a off. align_at-map h.flex.machine m a a (set.others a off)) (λ a off. bytes_at-map h.flex.machine m a a (set.others a off));
        };
        others = λ a off.
            let apart : a ≢ addr = λ same. off (sym same) in
            record { payload = set.others a apart; row = row_at-without_other addr h.asked a apart };
      })

  -- a payload with other bytes
  pub written : (g : Heap) (addr offset : ℕ) (bytes : List ℕ) → WritesIn h addr offset bytes g → Goes memory h g (λ a. addr ≡ a)
  written g addr offset bytes (m, step, after) = subst (λ (x : Heap). Goes memory h x (λ a. addr ≡ a)) (sym after) (
      let u = with_machine h.flex m in
      let now = splice (bytes_at h.flex.machine addr) offset (offset + length bytes) bytes in
      let alone : AsksNothing 64 64 h.flex (machine_fills addr now) [] u = record { machine = m; leads = step; none = refl; after = refl } in
      let is = flex_goes h.source h.source w.owed.cursor h.flex w.flex w.owed u [] refl (machine_fills addr now) tt (step.block, step.holds) alone in
      let (p, was, long, set) = is.changes in
      let seen = filled_seen w.flex.machine m addr now step in
      record {
        heap =
            record {
              flex = is.flex;
              owed = is.owed;
              sorted = w.sorted;
              lists = Lists-filled h.asked h.flex.machine m w.lists addr (λ i a. seen.aligns a i) (seen.lengths addr) seen.bytes;
            };
        others = λ a off. record { payload = set.others a (λ same. off (sym same)); row = refl };
      })

  module _ (addr : ℕ) (row : Row) (there : row_at addr h.asked ≡ Some row) (g : Heap) (to : NonZeroUsize) (wanted : Layout)
      (asked : g.asked ≡ put (to, wanted) (without_row addr h.asked)) where
    -- another entry than the old one and the new one stays
    row_stays : (a : ℕ) → a ≢ addr → a ≢ at to → row_at a g.asked ≡ row_at a h.asked
    row_stays a off off_to = ap (row_at a) asked ∙ row_at-put_other (to, wanted) (without_row addr h.asked) a off_to ∙ row_at-without_other addr h.asked a off

    -- the entries stay in their order, where nothing lived at another address
    sorted_after : (at to ≢ addr → payload_at h.flex.machine (at to) ≡ None) → IsSorted (put (to, wanted) (without_row addr h.asked))
    sorted_after new =
        put-sorted (to, wanted) (without_row addr h.asked) (without_row-sorted addr h.asked w.sorted)
        (absent-row_at (at to) (without_row addr h.asked) (elim (cases_eq (at to) addr) [
          | inl same ↦ subst (λ a. row_at a (without_row addr h.asked) ≡ None) (sym same) (row_at-without_here addr h.asked)
          | inr off ↦ row_at-without_other addr h.asked (at to) off ∙ no_row h (at to) w.lists (new off)
        ]))

    -- a payload is at another address or of another size
    moved : IsFlexWellFormed 64 64 memory (terms_of g.source) g.flex → MayOwe g.source g.flex.pools → (p : Payload) → payload_at g.flex.machine (at to) ≡ Some p
        → ServesLayout wanted.size wanted.align p → (at to ≢ addr → payload_at h.flex.machine (at to) ≡ None) → (at to ≢ addr → payload_at g.flex.machine addr ≡ None)
        → ((a : ℕ) → a ≢ addr → a ≢ at to → payload_at g.flex.machine a ≡ payload_at h.flex.machine a) → Goes memory h g (λ a. (addr ≡ a) ⊎ (at to ≡ a))
    moved flex owed p here serves new left others = record {
      heap = record {
        flex = flex;
        owed = owed;
        sorted = subst IsSorted (sym asked) (sorted_after new);
        lists = subst (λ l. Lists l g.flex.machine) (sym asked)
            (Lists-moved h.asked h.flex.machine g.flex.machine w.lists addr (to, wanted) (served g.flex.machine (at to) wanted p here serves)
            (λ off. align_at-none g.flex.machine addr (left off)) (λ a off off_to. align_at-map h.flex.machine g.flex.machine a a (others a off off_to))
            (λ a off off_to. bytes_at-map h.flex.machine g.flex.machine a a (others a off off_to)));
      };
      others = λ a off.
          let one : a ≢ addr = λ same. off (inl (sym same)) in
          let two : a ≢ at to = λ same. off (inr (sym same)) in
          record { payload = others a one two; row = row_stays a one two };
    }

    -- by the reference model
    pub resized : (notes : List Note) → row.1.align ≡ wanted.align
        → FlexGoes memory h.source h.flex (machine_reallocates addr wanted.size (Some (at to))) notes g.source g.flex → Goes memory h g (λ a. (addr ≡ a) ⊎ (at to ≡ a))
    resized notes aligned is =
        let r : IsResizedInMap (payload_at h.flex.machine) addr wanted.size (at to) (payload_at g.flex.machine) = is.changes in
        let same : r.old.align ≡ wanted.align =
        same_Some r.old.align wanted.align (sym (align_at-told h.flex.machine addr r.old r.was) ∙ live_row h addr row w.lists there ∙ ap Some aligned) in
        moved is.flex is.owed r.now r.here (subst (λ n. ServesLayout wanted.size n r.now) same r.serves) r.new r.left r.others

    -- into a payload that was allocated while the old one is live
    pub replaced : (keep : ℕ) → Replaces h addr keep wanted.size wanted.align (at to) g.flex g.source → Goes memory h g (λ a. (addr ≡ a) ⊎ (at to ≡ a))
    replaced keep step =
        let is = replacement h w addr row there g.flex g.source (at to) keep wanted step in
        moved is.flex is.owed is.now is.here is.serves (λ off. is.new) (λ off. is.gone) is.others
