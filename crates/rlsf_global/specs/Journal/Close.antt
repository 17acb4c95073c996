-- When a journal and the passes of its callers agree.
use Rattle.std.specs.Prelude.{◌≡◌, ℕ, ◌<◌, List, [], ◌∷◌, ◌==◌, ◌||◌, not, nat_lt, Bool, true, false, All}
use Rattle.rlsf_global.specs.declared.entry.Entry.{Entry}
use Rattle.rlsf_global.specs.Journal.Entries.{receipts_of}
use Rattle.rlsf_global.specs.Journal.Passes.{PassContents}

-- some pass has the number
abbrev pub has_pass : ℕ → List PassContents → Bool
has_pass caller [] = false
has_pass caller (p ∷ passes) = (p.caller == caller) || has_pass caller passes

-- some pass has a number that isn't below the bound, or one that a later pass has too
abbrev pub is_strange : ℕ → List PassContents → Bool
is_strange callers [] = false
is_strange callers (p ∷ passes) = not (nat_lt p.caller callers) || (has_pass p.caller passes || is_strange callers passes)

-- each number below the bound has a pass
abbrev pub HasEach : ℕ → List PassContents → Type 0
HasEach callers passes = (c : ℕ) → c < callers → has_pass c passes ≡ true

-- no pass is strange, but a number below the bound has none
abbrev pub LacksOne : ℕ → List PassContents → Type 0
LacksOne callers passes = (is_strange callers passes ≡ false) × ((c : ℕ) × (c < callers) × (has_pass c passes ≡ false))

-- no pass is strange, and each number below the bound has one
abbrev pub AreComplete : ℕ → List PassContents → Type 0
AreComplete callers passes = (is_strange callers passes ≡ false) × HasEach callers passes

-- each pass has exactly the receipts of its caller's entries, in their order, and each entry's caller is below the bound
pub record Agree (callers : ℕ) (passes : List PassContents) (journal : List Entry) : Type 0 where
  pub receipts : All (λ p. p.receipts ≡ receipts_of p.caller 0 journal) passes
  pub callers_known : All (λ e. e.caller < callers) journal
