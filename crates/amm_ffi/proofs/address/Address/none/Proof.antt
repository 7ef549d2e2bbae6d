-- `none` makes the handle of nothing.
use Rattle.std.proofs.Common.{[], ◌∷◌, refl, false, lit<}
use types.Kit.{raw, ◌$◌, ◌∵◌, !, qed, done, drop, join, suffices}
use types.Run.{lit, no_more, and_then, returns, enter}
use types.ByLocal.{alloc_all, pass_all, free_all, look_at, sets}
use types.Part.{agg}
use contract.Running.{tables}
use denote.RawPtr.{null_ptr}
use denote.Steps.{nothing}
use denote.Triple.Walked.{walk_of, Stays, says, ends_at}
use Rattle.std.proofs.raw_atomic.Walks.{proved_at}
use Rattle.amm_ffi.specs.Progress.{opening}
use Rattle.amm_ffi.proofs.Addresses.{Address, single, address_in}
use Rattle.amm_ffi.specs.contracts.address.Address.none.{ended, clauses}
use Rattle.amm_ffi.specs.contracts.address.Address.none.Key.{name as #self}
use Rattle.amm_ffi.proofs.address.Address.none.Statement.{statement}
use Rattle.amm_ffi.proofs.address.Address.none.Code as code

abbrev stayed : Stays ended.signature.params ended.kept
stayed = tt

abbrev made : Address.Denot
made = record { at = null_ptr; there = false; held = opening }

pub none_spec : {M : Type 1} → statement M
none_spec 𝓤 𝓛 𝓜 𝓡 wired =
    let H = 𝓛.H in let 𝓣 = tables 𝓤 H 𝓜 𝓡 𝓡.env in let c = clauses 𝓛 𝓜.mem 𝓡.returns in
    proved_at 𝓛 ended stayed c 𝓜 𝓡 tt #self code.function (code.unfolded 𝓤 H 𝓜 𝓡 wired) (λ z are.
    let W = walk_of 𝓛 ended stayed c in
    qed 𝓛 (raw (W.pre z) ∷ []) ∵ drop ! $
    enter ! 𝓣.C 𝓣.Λ code.function [] (W.post z) $ alloc_all ! (λ l. pass_all ! refl tt $
    sets ! (agg ! (and_then ! (lit ! tt) (no_more !))) refl (tt, (record { fits = lit< tt }, tt)) $
    returns ! (look_at ! 0 refl) $ free_all ! refl $
    suffices ! _ (ends_at 𝓛 ended stayed c z (single null_ptr) made tt tt) $ says ! refl $
    nothing ! $ address_in ! made $ nothing ! $ join ! $ nothing ! $ join ! $ done !))
