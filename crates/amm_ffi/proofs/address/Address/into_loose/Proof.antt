-- `into_loose` says again what the pointer points to.
use Rattle.std.proofs.Common.{◌≡◌, Bool, List, [], ◌∷◌, ◌++◌, refl, sym, ap, ◌∙◌, subst, true}
use mir.Val.{Val, vptr}
use base.Logic.{SProp, ent, id⊢, fst∗, never}
use base.Fml.{ftrue}
use prog.Wp.{WpFn}
use types.Logic.{sem}
use types.Kit.{‵, raw, ◌⊛◌, ◌$◌, ◌∵◌, !, qed, done, move, keep, drop, split, join, fsplit, fjoin, suffices, rewrite}
use types.Run.{stop, fld, of_opd, no_more, and_then, returns, enter}
use types.ByLocal.{alloc_all, pass_all, free_all, look_at, get, get_in, sets}
use types.Part.{agg, sub, whole}
use contract.Monad.{fact}
use contract.Running.{tables}
use mir.Raw.{raw as bare}
use denote.Exit.{yes}
use denote.Param.{layout}
use denote.RattleType.{owns}
use denote.Signature.{types_at, plain}
use denote.RawPtr.{Ptr, block_ptr, null_ptr, in_a_block}
use denote.Steps.{nothing, heard}
use denote.Triple.Walked.{walk_of, Stays, stay_dropped, Goes-dropped, says, ends_at}
use Rattle.std.proofs.alloc.Calls.{handle_tells}
use Rattle.std.proofs.raw_atomic.Walks.{proved_at}
use Rattle.std.specs.Box.Ownership.{box_owns}
use Rattle.amm_ffi.specs.Behind.{address_owns, the_heap}
use Rattle.amm_ffi.proofs.Loosened.{both, loose_in, loose_good, al}
use Rattle.amm_ffi.proofs.Addresses.{Address, single, address_out, R, Z, LZ, g}
use Rattle.amm_ffi.specs.contracts.address.Address.into_loose.{ended, clauses}
use Rattle.amm_ffi.specs.contracts.address.Address.into_loose.Key.{name as #self}
use Rattle.amm_ffi.specs.contracts.loose.Loose as loose
use Rattle.amm_ffi.proofs.address.Address.into_loose.Statement.{statement}
use Rattle.amm_ffi.proofs.address.Address.into_loose.Code as code

abbrev stayed : Stays ended.signature.params ended.kept
stayed = (stay_dropped _ yes, (stay_dropped _ yes, tt))

pub into_loose_spec : {M : Type 1} → statement M
into_loose_spec 𝓤 𝓛 𝓜 𝓡 wired =
    let H = 𝓛.H in let 𝓣 = tables 𝓤 H 𝓜 𝓡 𝓡.env in let c = clauses 𝓛 𝓜.mem 𝓡.returns in
    proved_at 𝓛 ended stayed c 𝓜 𝓡 (Goes-dropped 𝓛 0 (plain (λ _. Address)) yes (λ κs x w. refl), (Goes-dropped 𝓛 0 (plain (λ _. Z)) yes (λ κs x w. refl), tt)) #self code.function
    (code.unfolded 𝓤 H 𝓜 𝓡 wired) (λ z are.
    let W = walk_of 𝓛 ended stayed c in let v = z.0.3.0 in let a = z.0.3.1.0 in let Post : Val → SProp 𝓤 = W.post z in
    let Run : List Val → SProp 𝓤 = λ ws. WpFn 𝓤 H 𝓣.C 𝓣.Λ code.function ws Post in
    qed 𝓛 ((‵ ftrue ⊛ ‵ (owns (types_at ended.signature.params z.0.0) z.0.3 z.0.4)) ∷ raw (fact 𝓤 (v.there ≡ true)) ∷ []) ∵ split ! $ drop ! $ fsplit ! $
    address_out ! v z.0.4.0 (λ ev. move ! (1 ∷ []) $ fsplit ! $ handle_tells (al R Z LZ g) ! a z.0.4.1.0 (λ h ea fits.
    move ! (3 ∷ []) $ heard ! (v.there ≡ true) (λ there.
    move ! (2 ∷ []) $ rewrite ! 0 (λ (y : Bool). ‵ (address_owns y v.at v.held)) there refl $
    in_a_block ! v.at (λ p. box_owns (g.dealloc_token the_heap) R p v.held) (fst∗ 𝓤 (never 𝓤) (sem 𝓛 (g.dealloc_token the_heap (bare (layout R)) null_ptr))) (λ b o e.
    let w : Val = single (block_ptr b o) in let made : (loose.the_row R Z g).Denot = record { at = block_ptr b o; alloc = a; value = v.held } in
    let told = ev ∙ ap (λ (p : Ptr). single p ∷ []) e in
    suffices ! (Run (w ∷ h ∷ [])) (subst (λ (us : List Val). ent 𝓤 (Run (w ∷ h ∷ [])) (Run us)) (sym (λ i. told i ++ (ea i ++ []))) (id⊢ 𝓤 (Run (w ∷ h ∷ [])))) $
    enter ! 𝓣.C 𝓣.Λ code.function (w ∷ h ∷ []) Post $ alloc_all ! (λ l. pass_all ! refl ((tt, (tt, tt)), (fits, tt)) $
    sets ! (of_opd ! (get_in ! (fld ! refl (stop !)) (sub ! 0 refl (whole !)))) refl (tt, tt) $
    sets ! (of_opd ! (get ! refl)) refl (tt, tt) $
    sets ! (agg ! (and_then ! (get ! refl) (and_then ! (get ! refl) (no_more !)))) refl (loose_good R Z LZ g b o h fits) $
    returns ! (look_at ! 0 refl) $ free_all ! refl $
    suffices ! _ (ends_at 𝓛 ended stayed c z (both (vptr b o) h) made (tt, (tt, tt)) (tt, (tt, tt))) $ says ! refl $
    loose_in R Z LZ g ! b o h a v.held $ keep ! (0 ∷ []) $ nothing ! $ nothing ! $ fjoin ! $ nothing ! $ fjoin ! $ join ! $ nothing ! $ join ! $ done !))))))
