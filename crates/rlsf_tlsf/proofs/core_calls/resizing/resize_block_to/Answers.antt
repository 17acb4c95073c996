use Rattle.std.proofs.Common.{◌≡◌, ℕ, eqb, arith, rules, Some, None, refl, sym, ◌∙◌, ap, subst}
use Rattle.std.proofs.lemmas.Bool.{eqb-true, eqb-false}
use Rattle.rlsf_model.specs.Callers.{align_at, bytes_at}
use Rattle.rlsf_model.specs.NoMove.{ReallocatesUnmovedBy, ReallocatesWithoutMove}
use Rattle.rlsf_model.specs.Reallocate.{Reallocates, Replans}
use Rattle.rlsf_model.specs.Sized.{IsSizedFor, live_count}
use Rattle.rlsf_model.specs.State.{State}
use Rattle.rlsf_model.proofs.CallerWords.{align_at-held, resized_seen}
use Rattle.rlsf_model.proofs.Chunks.{chunks-reallocated}
use Rattle.rlsf_model.proofs.Coverage.{by_test}
use Rattle.rlsf_model.proofs.NoMove.{unmoved_is_reallocated}
use Rattle.rlsf_model.proofs.SizedWords.{count_resized, sized_resized}
use Rattle.rlsf_blocks.specs.Laws.{read_from}
use Rattle.rlsf_tlsf.specs.CoreResizes.{KeepsPayloadsResizing}
use Rattle.rlsf_tlsf.specs.Results.{IsResized}
use Rattle.rlsf_tlsf.specs.Steps.Moves.{bare, reallocated}
use Rattle.rlsf_tlsf.proofs.Moved.{reallocated-bare}
use Rattle.rlsf_tlsf.proofs.Reached.{LeavesCore-arrived, LeavesCore-counted, LeavesCore-within, bare-core, read_from-counted, reads}
use Rattle.rlsf_tlsf.proofs.core_calls.resizing.resize_block_to.Goals as goal

pub resize_kept_block-requires : goal.resize_kept_block-requires
resize_kept_block-requires g c =
    let (u, holds, start, own) = c.requires.own in (
      omega arith,
      (
        c.requires.core.valid,
        (
          (
            read_from c.args.memory.now c.args.state.now.state,
            u,
            c.requires.core.stands,
            record { is_used = holds.0; start = start; caller = holds.1; alignment = refl },
            own,
          ),
          (search rules, c.requires.fits),
        ),
      ),
    )

-- the bytes don't suffice
pub returns-in_default : goal.returns-in_default
returns-in_default g c =
    let n = c.resize_kept_block.new.memory in
    let k = c.args.state.now.state in
    let s = read_from c.args.memory.now k in
    let (u, holds, start, own) = c.requires.own in
    let (counts, table) = c.in_default.ensures.unchanged in
    let none = c.in_default.ensures.refused s u c.requires.core.stands (record { is_used = holds.0; start = start; caller = holds.1; alignment = refl }) in
    let same : read_from n k ≡ s = read_from-counted counts k in
    record {
      left = LeavesCore-within (omega arith) refl (LeavesCore-counted counts table refl c.requires.core);
      step = record { block = u; holds = holds; step = subst (λ o. ReallocatesUnmovedBy s u o None (read_from n k)) (sym none) same };
      result = tt;
      kept = record { aligns = ap align_at same; bytes = λ a apart. ap (λ x. bytes_at x a) same; count = ap live_count same; chunks = refl };
      bounds = λ count most widest align sized live short fits. subst (IsSizedFor g.row.SLLEN count most widest) (sym same) sized;
      refused = record { counts = counts; table = table; state = refl };
    }

-- the payload has another size
pub returns : goal.returns
returns g c =
    let n = c.resize_kept_block.new.memory in
    let s = read_from c.args.memory.now c.args.state.now.state in
    let addr = c.args.addr in
    let size = c.args.layout.size in
    let are = c.requires.core in
    let well = are.stands.well_formed in
    let (u, holds, start, own) = c.requires.own in
    let e = c.in-Some.ensures in
    let (same, (p, first, there, (t, replans, stands, spare))) =
    e.done s u are.stands (record { is_used = holds.0; start = start; caller = holds.1; alignment = refl }) own in
    let did : ReallocatesWithoutMove s addr size (Some addr) t = record {
      block = u;
      holds = holds;
      step = subst (λ o. ReallocatesUnmovedBy s u o (Some addr) t) (sym first) (subst (λ a. Replans s u p a t) there replans);
    } in
    let reached : Reallocates g.row.SLLEN s addr size (Some addr) t = (unmoved_is_reallocated g.row.SLLEN s t addr size (Some addr) did).0.1 in
    let seen = resized_seen well t addr size u.align addr (u, holds, refl) reached in
    let was : align_at s addr ≡ Some u.align = align_at-held well addr u holds in
    let aligned : (a : ℕ) → align_at t a ≡ align_at s a = λ a. by_test (eqb a addr)
    (λ e. let here = eqb-true a addr e in ap (align_at t) here ∙ seen.live ∙ sym was ∙ ap (align_at s) (sym here))
    (λ e. let apart = eqb-false a addr e in seen.aligns a apart apart) in
    let k = c.reallocate.new.self.state in
    let kept : k ≡ bare t =
    c.reallocate.ensures ∙ (λ i. reallocated g.row.SLLEN addr (c.size.ensures.value i) (sym (bare-core are) i)) ∙ reallocated-bare well t addr size addr reached in
    record {
      left = LeavesCore-arrived stands k kept are.valid spare e.costs e.own e.here;
      step = reads stands k kept (ReallocatesWithoutMove s addr size (Some c.in-Some.to)) (subst (λ a. ReallocatesWithoutMove s addr size (Some a) t) (sym same) did);
      result = (same, reads stands k kept (λ (x : State). IsResized s x addr size addr) (record { there = refl; sized = seen.sized; few = seen.few; kept = seen.kept }));
      kept = reads stands k kept (λ (x : State). KeepsPayloadsResizing s x addr) (record {
        aligns = λ i a. aligned a i;
        bytes = λ a apart. seen.bytes a apart apart;
        count = count_resized well t addr size (Some addr) (u, holds) reached;
        chunks = chunks-reallocated g.row.SLLEN s t addr size (Some addr) reached;
      });
      bounds = λ count most widest align sized live short fits. reads stands k kept (IsSizedFor g.row.SLLEN count most widest)
          (sized_resized well t count most widest sized addr size align (Some addr) live short fits reached);
      refused = tt;
    }
