-- The result of closing a book.
use Rattle.std.proofs.Common.{◌≡◌, ◌↔◌, ◌<◌, ℕ, List, true, false, true≢false, Result, Ok, Err, IfOk, IsErrOf, refl, ◌∙◌, subst, sym}
use Rattle.rlsf_global.specs.declared.close.Closed.{Closed}
use Rattle.rlsf_global.specs.declared.close.CloseError.{CloseError}
use Rattle.rlsf_global.specs.declared.close.CloseError.TheVariants.{Mismatch, MissingPass, StrangePass}
use Rattle.rlsf_global.specs.declared.entry.Entry.{Entry}
use Rattle.rlsf_global.specs.Journal.Close.{Agree, AreComplete, HasEach, LacksOne, has_pass, is_strange}
use Rattle.rlsf_global.specs.Journal.Passes.{PassContents}
use Rattle.rlsf_global.specs.Journal.Replay.{BookContents, IsRun}
use Rattle.rlsf_model_global.specs.Heap.{Heap}
use Rattle.rlsf_model_global.specs.Rows.{IsSorted}

-- the returned journal is one run, and what is live is what it leads to
pub closed_history : (b : BookContents) (r : Result Closed CloseError) → IfOk r (λ c. (c.journal.items ≡ b.journal) × IsRun b.journal b.locked.heap)
    → IfOk r (λ c. (c.live.items ≡ b.locked.heap.asked) × IsSorted c.live.items)
    → IfOk r (λ c. (h : Heap) × IsRun c.journal.items h × (c.live.items ≡ h.asked) × IsSorted c.live.items)
closed_history b (Ok c) (same, replay) (live, sorted) = (b.locked.heap, subst (λ j. IsRun j b.locked.heap) (sym same) replay, live, sorted)
closed_history b (Err e) journal live = tt

-- and the passes agree with it
pub closed_agreed : (b : BookContents) (callers : ℕ) (passes : List PassContents) (r : Result Closed CloseError)
    → IfOk r (λ c. (c.journal.items ≡ b.journal) × IsRun b.journal b.locked.heap) → IfOk r (λ c. AreComplete callers passes × Agree callers passes b.journal)
    → IfOk r (λ c. AreComplete callers passes × Agree callers passes c.journal.items)
closed_agreed b callers passes (Ok c) (same, replay) (complete, agree) = (complete, subst (Agree callers passes) (sym same) agree)
closed_agreed b callers passes (Err e) journal agreed = tt

-- the errors are three
strange≢missing : (result : Result Closed CloseError) → result ≡ Err StrangePass → result ≡ Err MissingPass → ⊥
strange≢missing result is other = cc

strange≢mismatch : (result : Result Closed CloseError) → result ≡ Err StrangePass → result ≡ Err Mismatch → ⊥
strange≢mismatch result is other = cc

missing≢mismatch : (result : Result Closed CloseError) → result ≡ Err MissingPass → result ≡ Err Mismatch → ⊥
missing≢mismatch result is other = cc

no_error : {closed : Closed} {e : CloseError} → Ok closed ≡ Err e → ⊥
no_error same = cc

-- what a close shows about its passes and the journal
pub record IsTold (callers : ℕ) (passes : List PassContents) (journal : List Entry) (result : Result Closed CloseError) : Type 0 where
  pub strange : IsErrOf result StrangePass ↔ (is_strange callers passes ≡ true)
  pub missing : IsErrOf result MissingPass ↔ LacksOne callers passes
  pub mismatch : IsErrOf result Mismatch ↔ (AreComplete callers passes × (Agree callers passes journal → ⊥))

module _ (callers : ℕ) (passes : List PassContents) (journal : List Entry) where
  pub told_strange : is_strange callers passes ≡ true → IsTold callers passes journal (Err StrangePass)
  told_strange is = record {
    strange = ((λ told. is), (λ same. refl));
    missing = ((λ told. absurd (strange≢missing _ refl told)), (λ lacks. absurd (true≢false (sym is ∙ lacks.0))));
    mismatch = ((λ told. absurd (strange≢mismatch _ refl told)), (λ both. let (complete, apart) = both in absurd (true≢false (sym is ∙ complete.0))));
  }

  pub told_missing : is_strange callers passes ≡ false → (c : ℕ) × (c < callers) × (has_pass c passes ≡ false) → IsTold callers passes journal (Err MissingPass)
  told_missing none some = let (n, below, lacks) = some in record {
    strange = ((λ told. absurd (strange≢missing _ told refl)), (λ is. absurd (true≢false (sym is ∙ none))));
    missing = ((λ told. (none, (n, below, lacks))), (λ same. refl));
    mismatch = ((λ told. absurd (missing≢mismatch _ refl told)), (λ both. let (complete, apart) = both in absurd (true≢false (sym (complete.1 n below) ∙ lacks))));
  }

  pub told_mismatch : is_strange callers passes ≡ false → HasEach callers passes → (Agree callers passes journal → ⊥) → IsTold callers passes journal (Err Mismatch)
  told_mismatch none each apart = record {
    strange = ((λ told. absurd (strange≢mismatch _ told refl)), (λ is. absurd (true≢false (sym is ∙ none))));
    missing = (
      (λ told. absurd (missing≢mismatch _ told refl)),
      (λ both. let (same, some) = both in let (n, below, lacks) = some in absurd (true≢false (sym (each n below) ∙ lacks))),
    );
    mismatch = ((λ told. ((none, each), apart)), (λ same. refl));
  }

  pub told_closed : is_strange callers passes ≡ false → HasEach callers passes → Agree callers passes journal → (closed : Closed)
      → IsTold callers passes journal (Ok closed)
  told_closed none each agree closed = record {
    strange = ((λ told. absurd (no_error told)), (λ is. absurd (true≢false (sym is ∙ none))));
    missing = ((λ told. absurd (no_error told)), (λ both. let (same, some) = both in let (n, below, lacks) = some in absurd (true≢false (sym (each n below) ∙ lacks))));
    mismatch = ((λ told. absurd (no_error told)), (λ both. let (complete, apart) = both in absurd (apart agree)));
  }
