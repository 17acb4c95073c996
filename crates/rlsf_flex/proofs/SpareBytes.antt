-- What leaves the bytes that no block is made of, except for the footer of memory that came.
use Rattle.std.proofs.Common.{◌≡◌, ℕ, List, arith, sym, ◌∙◌, subst}
use Rattle.rlsf_base.specs.declared.memory.range.Range.{Range}
use Rattle.rlsf_base.specs.Space.{Space, SamePlace}
use Rattle.rlsf_blocks.specs.Spare.{IsSpare, KeepsSpare}
use Rattle.rlsf_flex.specs.SpareBytes.{KeepsSpareButFooter}
use Rattle.rlsf_model.specs.FlexState.{FlexState, with_machine}
use Rattle.rlsf_model.specs.Lists.{IsIn}
use Rattle.rlsf_model.specs.State.{State}
use Rattle.rlsf_model.specs.Terms.{Terms}

-- what is spare depends on the chunks alone
IsSpare-chunks : (s t : State) (a : ℕ) → t.chunks ≡ s.chunks → IsSpare t a → IsSpare s a
IsSpare-chunks s t a same spare c i = spare c (subst (λ (cs : List Range). IsIn c cs) (sym same) i)

module _ (t : Terms) (m n : Space) (s u : FlexState) where
  -- what keeps all spare bytes keeps those that are no footer
  pub KeepsSpareButFooter-all : KeepsSpare m s.machine n u.machine → KeepsSpareButFooter t m s n u
  KeepsSpareButFooter-all keeps a low high one two none = keeps a low high one two

  -- where no range came or grew, no byte is excepted
  pub KeepsSpare-room : u.pools ≡ s.pools → KeepsSpareButFooter t m s n u → KeepsSpare m s.machine n u.machine
  KeepsSpare-room same keeps a low high one two = keeps a low high one two (λ f. f.came same)

module _ (t : Terms) (m n o : Space) (s u : FlexState) (place : SamePlace m n) where
  -- what kept them came before the memory
  pub KeepsSpareButFooter-behind : KeepsSpare m s.machine n s.machine → KeepsSpareButFooter t n s o u → KeepsSpareButFooter t m s o u
  KeepsSpareButFooter-behind first second a low high one two none =
      second a (omega (arith, place.0, low)) (omega (arith, place.0, place.1, high)) one two none ∙ first a low high one one

  -- what keeps them and the chunks comes behind the memory
  pub KeepsSpareButFooter-before : KeepsSpareButFooter t m s n u → (x : State) → x.chunks ≡ u.machine.chunks → KeepsSpare n u.machine o x
      → KeepsSpareButFooter t m s o (with_machine u x)
  KeepsSpareButFooter-before first x chunks second a low high one two none =
      let meanwhile = IsSpare-chunks u.machine x a chunks two in
      second a (omega (arith, place.0, low)) (omega (arith, place.0, place.1, high)) meanwhile two ∙ first a low high one meanwhile none
