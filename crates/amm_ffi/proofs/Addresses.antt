-- The machine value of an `Address`. Assumes `Logic`.
use Rattle.std.proofs.Common.{◌≡◌, List, [], ◌∷◌, ◌++◌, refl, subst}
use seplogic.Ra.Ura.{Ura}
use mir.Val.{Val, vstruct, vcons, vnil, of_list}
use types.Logic.{Logic}
use types.Kit.{Item, Goal, Seq, Step, step, ‵, ◌$◌, drop, fsplit, fjoin, fpick, fpack, feq_i, feq_l}
use denote.RattleType.{RattleType, Valss}
use denote.Builtin.{RawPtr}
use denote.RawPtr.{Ptr, ptr_val}
use denote.Steps.{nothing}
use denote.Param.Laws.{Laws}
use denote.Struct.Struct.{within}
use denote.Struct.Owning.{shape}
use Rattle.std.proofs.alloc.Global.TheLaws as global
use Rattle.std.specs.contracts.alloc.Global as Global
use Rattle.amm_ffi.specs.Behind.{address_owns}
use Rattle.amm_ffi.specs.contracts.address.Address as address
use Rattle.amm_ffi.specs.contracts.session.Session as session
use Rattle.std.specs.contracts.impls.GlobalAllocator.TheImpl as impls
use Rattle.std.specs.declared.alloc.Allocator.{Ghosts}

abbrev pub Address : RattleType
Address = address.the_row

abbrev pub R : RattleType
R = session.the_row

abbrev pub Z : RattleType
Z = Global.the_row

abbrev pub LZ : Laws Z
LZ = global.the_row_laws

abbrev pub g : Ghosts Z.Denot
g = impls.ghosts

abbrev pub single : Ptr → Val
single p = vstruct (vcons (ptr_val p) vnil)

module _ {M : Type 1} {𝓤 : Ura M} {𝓛 : Logic 𝓤} {K : Type 0} {Γ : List (Item 𝓤)} {G : Goal 𝓤 𝓛.H} where
  pub address_out : K → (d : Address.Denot) (vs : List Val)
      → (vs ≡ single d.at ∷ [] → Seq K 𝓛 (‵ (address_owns d.there d.at d.held) ∷ Γ) G)
      → Seq K 𝓛 (‵ (Address.own_val d vs) ∷ Γ) G
  address_out t d vs k =
      fsplit t $ fpick t (λ vss. fsplit t $ feq_l t (λ ev. fsplit t $ feq_l t (λ ep. drop t $
      k (subst (λ (ps : List Val). vs ≡ vstruct (of_list (ps ++ [])) ∷ []) ep ev))))

  pub address_in : K → (d : Address.Denot)
      → Step K 𝓛 (‵ (Address.own_val d (single d.at ∷ [])) ∷ Γ) G (‵ (address_owns d.there d.at d.held) ∷ Γ) G
  address_in t d = step (λ s. let v : Val = single d.at in
      nothing t $ feq_i t (List Val) (ptr_val d.at ∷ []) (ptr_val d.at ∷ []) refl $ fjoin t $ feq_i t (List Val) (v ∷ []) (v ∷ []) refl $ fjoin t $
      fpack t (Valss (RawPtr ∷ [])) (within (shape address.the_type) (d.at, tt) (v ∷ [])) (ptr_val d.at ∷ [], tt) $ fjoin t $ s)
