-- What each export does with the value behind its handle before it calls: it finds the block, and lends the value.
use Rattle.rlsf_c_lemmas.proofs.Walking.{ℕ, List, [], ◌∷◌, refl, full_share, id⊢, flft, flent, named, vptr, ‵, ◌⊛◌, some, later, ◌$◌, move, use1, split, pick, await}
use Rattle.rlsf_c_lemmas.proofs.Walking.{regoal, lft_new, Body, lends_ref, part_at, mem, Ptr, block_ptr, lies_at, in_a_block, MutRef}
use seplogic.Ra.Ura.{Ura}
use types.Logic.{Logic}
use types.Kit.{Item, Goal, Seq, Soaks}
use denote.RattleType.{RattleType}

module _ {M : Type 1} {𝓤 : Ura M} {𝓛 : Logic 𝓤} {K : Type 0} {Γ : List (Item 𝓤)} where
  -- what lies behind a pointer lies in a block
  pub in_its_block : K → (R : RattleType) (before : R.Denot) (p : Ptr) (F : Ptr → Goal 𝓤 𝓛.H)
      → ((b o : ℕ) → Seq K 𝓛 (‵ (part_at R full_share before b o) ∷ Γ) (F (block_ptr b o))) → Seq K 𝓛 (‵ (lies_at R full_share p before) ∷ Γ) (F p)
  in_its_block t R before p F inside =
      in_a_block t p (λ q. lies_at R full_share q before) (id⊢ 𝓤 _) (λ b o e.
      regoal t F e refl $ use1 𝓛 (‵ (part_at R full_share before b o)) (id⊢ 𝓤 _) $ inside b o)

  -- what lies in a block is lent for a lifetime of its own: there are the loan, what the lender keeps, and the lifetime's token
  pub lends : {G : Goal 𝓤 𝓛.H} → K → Soaks G → (R : RattleType) (before : R.Denot) (b o : ℕ)
      → ((α γ : ℕ) → Seq K 𝓛 (‵ ((MutRef (named 0) (α ∷ []) R).own_val (record { ref_ptr = (b, o); ghost_name = γ; now = before }) (vptr b o ∷ []))
      ∷ ‵ (flent (α ∷ []) (Body (mem R) b o γ)) ∷ ‵ (flft (α ∷ []) full_share) ∷ Γ) G)
      → Seq K 𝓛 (‵ (part_at R full_share before b o) ∷ Γ) G
  lends t soaks R before b o inside =
      lft_new t soaks (λ α. move t (1 ∷ []) $
      use1 𝓛 (later (some (λ (γ : ℕ). ‵ ((MutRef (named 0) (α ∷ []) R).own_val (record { ref_ptr = (b, o); ghost_name = γ; now = before }) (vptr b o ∷ [])) ⊛ ‵
      (flent (α ∷ []) (Body (mem R) b o γ)))))
      (lends_ref 𝓛 R (named 0) (α ∷ []) before b o) $ await t soaks $ pick t (λ γ. split t $ inside α γ))
