-- A payload that was placed: what callers see of it, and where its bytes lie.
use Rattle.std.proofs.Common.{◌≡◌, ℕ, ◌%◌, length, arith, inl, refl, sym, ◌∙◌, ap, subst}
use Rattle.rlsf_base.specs.declared.memory.range.Range.{Range}
use Rattle.rlsf_base.specs.OpenSpace.{IsOwned, SameOwn}
use Rattle.rlsf_model_sizes.specs.PowerOfTwo.{IsPowerOfTwo}
use Rattle.rlsf_base.specs.Range.{LiesIn, range_at}
use Rattle.rlsf_base.specs.Space.{Space}
use Rattle.rlsf_base.proofs.Lending.Present.{own-there, own-inside}
use Rattle.rlsf_model.specs.Allocate.{Places, placed}
use Rattle.rlsf_model.specs.Callers.{bytes_at}
use Rattle.rlsf_model.specs.Lists.{IsIn}
use Rattle.rlsf_model.specs.State.{State, Used, usable}
use Rattle.rlsf_model.proofs.Allocations.{placed-fits}
use Rattle.rlsf_model.proofs.CallerWords.{bytes_at-held, new_seen}
use Rattle.rlsf_model.proofs.Payloads.{IsUsed-after_start, payload_of-after, payload_of-aligned}
use Rattle.rlsf_model.proofs.SizedWords.{count_new}
use Rattle.rlsf_table.specs.Table.{Table}
use Rattle.rlsf_blocks.specs.StandsFor.{contents, StandsFor}
use Rattle.rlsf_blocks.specs.Steps.Rest.{room_of}
use Rattle.rlsf_blocks.proofs.Allocate.Placements.{IsFitting, fitting, is_free}
use Rattle.rlsf_blocks.proofs.Words.Apart.{free_in_memory, used_in_memory}
use Rattle.rlsf_blocks.proofs.Words.NeverOut.{here_free}
use Rattle.rlsf_tlsf.specs.Cores.{IsPayloadRange}
use Rattle.rlsf_tlsf.specs.Results.{IsAllocated}

-- the bytes of a payload lie in the memory
pub lies_used : {fllen sllen : ℕ} {m : Space} {table : Table} {s : State} → StandsFor fllen sllen (contents m table) s → (u : Used) → IsIn u s.used
    → LiesIn (usable u) m.start (length m.bytes)
lies_used v u i =
    let is = v.well_formed.used u i in
    let place = used_in_memory v.well_formed u i in
    (omega (arith, place.0, IsUsed-after_start u is), omega (arith, place.1, is.within))

module _ {fllen sllen : ℕ} {m n : Space} {table changed : Table} {s t : State} {size align addr : ℕ} (v : StandsFor fllen sllen (contents m table) s)
    (power : IsPowerOfTwo align) (places : Places sllen s size align addr t) (now : StandsFor fllen sllen (contents n changed) t) (own : SameOwn m n) where
  abbrev new : Used
  new = placed places.range size align places.bytes

  is_new : IsIn new t.used
  is_new = subst (λ (x : State). IsIn new x.used) (sym places.after) (inl refl)

  at_new : new.payload ≡ addr
  at_new = sym places.answer

  fit : IsFitting v places.range size align power places.chosen
  fit = fitting v places.range size align power places.chosen

  -- its bytes were free
  owned : IsOwned n (usable new)
  owned =
      let f = places.range in
      own-there m n (usable new) (omega (arith, fit.after_start, (free_in_memory v.well_formed f (is_free v f size align power places.chosen)).0)) own
      (own-inside m f (usable new) (omega (arith, fit.after_start))
      (omega (arith, fit.after_start, fit.before_end, placed-fits v.well_formed f size align power places.chosen)) (here_free v f (is_free v f size align power places.chosen)))

  -- there are as many as the payload of the reference model has
  many : (usable new).len ≡ length (bytes_at t addr)
  many = sym (ap length (bytes_at-held now.well_formed addr new (is_new, at_new)) ∙ (now.well_formed.used new is_new).bytes)

  made : IsAllocated s t size align addr
  made =
      let seen = new_seen v.well_formed t size align addr power places in record {
        live = seen.live;
        sized = seen.sized;
        few = seen.few;
        new = seen.new;
        aligns = seen.aligns;
        bytes = seen.bytes;
        count = count_new v.well_formed t size align addr power places;
      }

  pub IsPlaced-at : (r : Range) → r.start ≡ addr → r.len ≡ room_of places.range size align → IsPayloadRange n s t size align r
  IsPlaced-at r at long =
      let same : usable new ≡ r = λ i. range_at ((at_new ∙ sym at) i) (sym long i) in record {
        made = subst (IsAllocated s t size align) (sym at) made;
        long = long ∙ many ∙ ap (λ a. length (bytes_at t a)) (sym at);
        some = omega (arith, at, places.answer, payload_of-after places.range.start align);
        aligned = subst (λ a. a % align ≡ 0) (at_new ∙ sym at) (payload_of-aligned places.range.start align power);
        lies = subst (λ q. LiesIn q n.start (length n.bytes)) same (lies_used now new is_new);
        own = subst (IsOwned n) same owned;
      }
