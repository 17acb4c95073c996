-- The kept pool.
use Rattle.std.proofs.Common.{◌≡◌, ℕ, Bool, true, false, ◌||◌, List, Option, Some, None, refl, sym, ap, subst}
use Rattle.std.specs.Bool.{then_some}
use Rattle.rlsf_base.specs.declared.memory.range.Range.{Range}
use Rattle.rlsf_tlsf.specs.Allocator.{Allocator}
use Rattle.rlsf_flex.specs.declared.pool.Pool.{Pool}
use Rattle.rlsf_flex.specs.Footers.{first_len, first_start}
use Rattle.rlsf_flex.specs.StandsFor.{flex_contents, FlexStandsFor, kept_of, kept_pool}
use Rattle.rlsf_flex.specs.Steps.Growth.{kept_len, kept_start}
use Rattle.rlsf_model.specs.FlexWellFormed.{IsKeptPool, IsNewest}
use Rattle.rlsf_model.specs.Terms.{Terms}

-- where ranges are returned, a pool is kept
pub keeps-dealloc : (t : Terms) → t.dealloc ≡ true → (t.dealloc || t.grow) ≡ true
keeps-dealloc t takes = ap (λ b. b || t.grow) takes

-- a pool that is kept or not, as contracts see it
pub kept_of-then_some : (b : Bool) (p : Pool) → kept_of (then_some b p) ≡ then_some b (kept_pool p)
kept_of-then_some true p = refl
kept_of-then_some false p = refl

-- the next footer names the newest range
pub words-first : (t : Terms) (kept : Option Pool) (pools chunks : List Range) → IsNewest t (kept_of kept) pools chunks → (t.dealloc || t.grow) ≡ true
    → (kept_start kept ≡ first_start pools) × (kept_len kept ≡ first_len pools)
words-first t None pools chunks is keep = (sym (ap first_start (is keep)), sym (ap first_len (is keep)))
words-first t (Some k) pools chunks is keep = (sym (ap first_start is.split), sym (ap first_len is.split))

-- the pool that is at hand is the kept one
pub IsKeptPool-known : {S : Type 0} {fllen sllen : ℕ} {terms : S → Terms} {owes : S → List Range → Type 0} {tlsf : Allocator} {source : S} {kept : Option Pool}
    {ranges : List Range} {pool : Pool}
    → FlexStandsFor fllen sllen terms owes (flex_contents tlsf kept source ranges) → kept ≡ Some pool
    → (kept_of kept ≡ Some (kept_pool pool)) × IsKeptPool (terms source) (kept_pool pool) ranges tlsf.state.chunks
IsKeptPool-known {S} {fllen} {sllen} {terms} {owes} {tlsf} {source} {kept} {ranges} {pool} v is =
    let was = ap kept_of is in
    (was, subst (λ k. IsNewest (terms source) k ranges tlsf.state.chunks) was v.well_formed.newest)
