use Rattle.std.proofs.Common.{◌≡◌, arith, inl, sym, ◌∙◌, ap, subst}
use Rattle.rlsf_base.specs.Space.{Space, range_of}
use Rattle.rlsf_base.proofs.Lending.Present.{here-none}
use Rattle.rlsf_model.specs.ChunkRows.{IsRow}
use Rattle.rlsf_table.proofs.Parameters.{IsValid-widest}
use Rattle.rlsf_blocks.specs.Blocks.{walked}
use Rattle.rlsf_blocks.specs.Laws.{read_from}
use Rattle.rlsf_blocks.specs.Consistency.Consistent.{IsConsistent}
use Rattle.rlsf_blocks.proofs.Consistency.Represented.{represented_is_consistent}
use Rattle.rlsf_tlsf.specs.Allocator.{Allocator}
use Rattle.rlsf_tlsf.proofs.tlsf.Tlsf.is_consistent.Goals as goal

pub is_consistent-requires : goal.is_consistent-requires
is_consistent-requires g c =
    let m = c.behind-self.inside.inner in
    (omega arith, (IsValid-widest g.FLBitmap.BitPattern.width_limit c.self.invariant.valid, inl (here-none m (range_of m) c.behind-self.invariant)))

pub returns-clause-row : goal.returns-clause-row
returns-clause-row g c = λ row.
    let m = c.self.inside.memory in
    let own : IsRow (read_from m c.self.inside.state.state) (walked c.args.range) =
    subst (λ (o : Allocator). IsRow o.state (walked c.args.range)) (sym c.self.view_is) row in
    let same : m ≡ c.behind-self.inside.inner = ap (λ (o : Allocator). o.memory) c.self.view_is ∙ sym (c.behind-self.view_is ∙ c.memory_ref.ensures.memory) in
    c.is_consistent.ensures.1 (subst (λ (n : Space). IsConsistent g.row.FLLEN g.row.SLLEN n c.self.inside.table (walked c.args.range)) same
    (represented_is_consistent g.row.FLLEN g.row.SLLEN m c.self.inside.table (read_from m c.self.inside.state.state) (walked c.args.range) c.self.invariant.stands own))
