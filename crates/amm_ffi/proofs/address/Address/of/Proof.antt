-- `of` forgets what the pointer points to, and the box goes behind the handle.
use Rattle.std.proofs.Common.{List, [], ◌∷◌, ◌++◌, refl, sym, subst, true}
use mir.Val.{Val, vptr}
use base.Logic.{SProp, ent, id⊢}
use base.Fml.{ftrue}
use prog.Wp.{WpFn}
use types.Kit.{‵, raw, ◌⊛◌, ◌$◌, ◌∵◌, !, qed, done, move, drop, keep, split, join, fsplit, fjoin, suffices}
use types.Run.{stop, fld, of_opd, no_more, and_then, returns, enter}
use types.ByLocal.{alloc_all, pass_all, free_all, look_at, get, get_in, sets}
use types.Part.{agg, sub, whole}
use contract.Running.{tables}
use denote.Exit.{yes}
use denote.RattleType.{owns}
use denote.Signature.{types_at, plain}
use denote.RawPtr.{block_ptr}
use denote.Steps.{nothing}
use denote.Triple.Walked.{walk_of, Stays, stay_dropped, Goes-dropped, says, ends_at}
use Rattle.std.proofs.raw_atomic.Walks.{proved_at}
use Rattle.amm_ffi.proofs.Loosened.{both, loose_out, loose_good}
use Rattle.amm_ffi.proofs.Addresses.{Address, single, address_in, R, Z, LZ, g}
use Rattle.amm_ffi.specs.contracts.address.Address.of.{ended, clauses}
use Rattle.amm_ffi.specs.contracts.address.Address.of.Key.{name as #self}
use Rattle.amm_ffi.specs.contracts.loose.Loose as loose
use Rattle.amm_ffi.proofs.address.Address.of.Statement.{statement}
use Rattle.amm_ffi.proofs.address.Address.of.Code as code

abbrev stayed : Stays ended.signature.params ended.kept
stayed = (stay_dropped _ yes, tt)

pub of_spec : {M : Type 1} → statement M
of_spec 𝓤 𝓛 𝓜 𝓡 wired =
    let H = 𝓛.H in let 𝓣 = tables 𝓤 H 𝓜 𝓡 𝓡.env in let c = clauses 𝓛 𝓜.mem 𝓡.returns in
    proved_at 𝓛 ended stayed c 𝓜 𝓡 (Goes-dropped 𝓛 0 (plain (λ _. loose.the_row R Z g)) yes (λ κs x w. refl), tt) #self code.function
    (code.unfolded 𝓤 H 𝓜 𝓡 wired) (λ z are.
    let W = walk_of 𝓛 ended stayed c in let v = z.0.3.0 in let Post : Val → SProp 𝓤 = W.post z in
    let Run : List Val → SProp 𝓤 = λ ws. WpFn 𝓤 H 𝓣.C 𝓣.Λ code.function ws Post in
    qed 𝓛 ((‵ ftrue ⊛ ‵ (owns (types_at ended.signature.params z.0.0) z.0.3 z.0.4)) ∷ raw ((c z.0.0 z.0.3).requires z.1) ∷ []) ∵ split ! $ drop ! $ fsplit ! $
    loose_out R Z LZ g ! v z.0.4.0 (λ b o h e ws fits. move ! (1 ∷ []) $ drop ! $
    let w : Val = both (vptr b o) h in let typed = loose_good R Z LZ g b o h fits in
    let made : Address.Denot = record { at = block_ptr b o; there = true; held = v.value } in
    suffices ! (Run (w ∷ [])) (subst (λ (us : List Val). ent 𝓤 (Run (w ∷ [])) (Run us)) (sym (λ i. ws i ++ [])) (id⊢ 𝓤 (Run (w ∷ [])))) $
    enter ! 𝓣.C 𝓣.Λ code.function (w ∷ []) Post $ alloc_all ! (λ l. pass_all ! refl (typed, tt) $
    sets ! (of_opd ! (get_in ! (fld ! refl (stop !)) (sub ! 0 refl (whole !)))) refl (tt, tt) $
    sets ! (of_opd ! (get ! refl)) refl (tt, tt) $
    sets ! (agg ! (and_then ! (get ! refl) (no_more !))) refl (tt, (tt, tt)) $
    returns ! (look_at ! 0 refl) $ free_all ! refl $
    suffices ! _ (ends_at 𝓛 ended stayed c z (single (block_ptr b o)) made (tt, tt) (tt, tt)) $ says ! (refl, refl) $
    address_in ! made $ keep ! (0 ∷ []) $
    nothing ! $ nothing ! $ fjoin ! $ join ! $ nothing ! $ join ! $ done !)))
