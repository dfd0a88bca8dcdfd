-- Lists made by functions that agree.
--     map_same, flat_map_same      two functions that agree on the elements
--     flat_map_parts      a list of lists of lists, in two steps or in one
use Rattle.std.proofs.Common.{◌≡◌, inl, inr, List, [], ◌∷◌, ◌++◌, map, refl, ap, ◌∙◌}
use Rattle.std.specs.List.{flat_map}
use Rattle.std.proofs.lemmas.List.Concat.{flat_map-append}
use Rattle.definitions.proofs.Lists.Sets.{Among}

pub map_same : {X Y : Type 0} (f g : X → Y) (xs : List X) → ((x : X) → Among x xs → f x ≡ g x) → map f xs ≡ map g xs
map_same f g [] h = refl
map_same f g (x ∷ xs) h = λ i. h x (inl refl) i ∷ map_same f g xs (λ y a. h y (inr a)) i

pub flat_map_same : {X Y : Type 0} (f g : X → List Y) → ((x : X) → f x ≡ g x) → (xs : List X) → flat_map f xs ≡ flat_map g xs
flat_map_same f g h [] = refl
flat_map_same f g h (x ∷ xs) = λ i. h x i ++ flat_map_same f g h xs i

pub flat_map_parts : {X Y Z : Type 0} (g : Y → List Z) (f : X → List Y) (xs : List X) → flat_map g (flat_map f xs) ≡ flat_map (λ x. flat_map g (f x)) xs
flat_map_parts g f [] = refl
flat_map_parts g f (x ∷ xs) = flat_map-append g (f x) (flat_map f xs) ∙ ap (λ zs. flat_map g (f x) ++ zs) (flat_map_parts g f xs)
