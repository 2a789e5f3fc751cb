-- The numbers of one SGR taken one after the other.
use Rattle.std.proofs.Common.{◌≡◌, ◌∙◌, ℕ, Iter, List, [], ◌∷◌, ◌++◌, refl, ap, sym}
use Rattle.std.proofs.lemmas.Fn.{fold_over, fronts, slice_gives}
use Rattle.std.specs.Fn.{Called}
use Rattle.std.specs.Iterator.{FoldsItems}
use Rattle.meaning.specs.Screen.{Style, styled, styled_one}
use Rattle.grid.specs.Cells.{style_of}
use Rattle.grid.specs.declared.cell.Rendition.{Rendition}
use denote.Param.Members.{Mut}
use denote.Ref.{Bor}

-- one number more
styled_more : (s : Style) (ns : List ℕ) (n : ℕ) → styled s (ns ++ (n ∷ [])) ≡ styled_one (styled s ns) n
unfolding styled
styled_more s [] n = refl
styled_more s (m ∷ ns) n = styled_more (styled_one s m) ns n

-- a fold whose closure takes one number does what all of them do
pub folded : {F : Type 0} (g : Mut F (Rendition × (Bor ℕ × Unit {0})) Rendition) (f : F) (start : Rendition) (ns : Iter ℕ) (r : Rendition)
    → ((a : Rendition) (n : Bor ℕ) (b : Rendition) (f₁ : F) → Called g f (a, (n, tt)) b f₁ → (style_of b ≡ styled_one (style_of a) n.now) × (f₁ ≡ f))
    → FoldsItems fronts g ns f start r → style_of r ≡ styled (style_of start) ns.rest.now
unfolding styled
folded {F} g f start ns r one all =
    let s = style_of start in
    fold_over fronts (λ y. y.now) g (λ ks b. style_of b ≡ styled s ks) f
    (λ ks a n b f₁ p k. let q = one a n b f₁ k in (q.0 ∙ ap (λ x. styled_one x n.now) p ∙ sym (styled_more s ks n.now), q.1))
    ns ns.rest.now start r (slice_gives ns) refl all
