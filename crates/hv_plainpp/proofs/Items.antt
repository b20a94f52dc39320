-- What holds of each item of a list, and which items it has.
use Rattle.std.proofs.Common.{◌≡◌, List, [], ◌∷◌, ◌++◌, map, flat_map, ap, subst, inl, inr, ◌⊎◌}

-- each item of a list has the property
abbrev pub Each : {A : Type 0} → (A → Type 0) → List A → Type 0
Each P [] = Unit {0}
Each P (x ∷ xs) = P x × Each P xs

-- the item is in the list
abbrev pub Has : {A : Type 0} → A → List A → Type 0
Has x [] = ⊥
Has x (y ∷ ys) = (x ≡ y) ⊎ Has x ys

pub each_append : {A : Type 0} (P : A → Type 0) (xs ys : List A) → Each P xs → Each P ys
    → Each P (xs ++ ys)
each_append P [] ys p q = q
each_append P (x ∷ xs) ys p q = (p.0, each_append P xs ys p.1 q)

pub each_weaken : {A : Type 0} (P Q : A → Type 0) → ((x : A) → P x → Q x) → (xs : List A) → Each P xs
    → Each Q xs
each_weaken P Q h [] p = tt
each_weaken P Q h (x ∷ xs) p = (h x p.0, each_weaken P Q h xs p.1)

pub each_map : {A B : Type 0} (P : A → Type 0) (Q : B → Type 0) (f : A → B)
    → ((x : A) → P x → Q (f x)) → (xs : List A) → Each P xs → Each Q (map f xs)
each_map P Q f h [] p = tt
each_map P Q f h (x ∷ xs) p = (h x p.0, each_map P Q f h xs p.1)

pub each_flat : {A B : Type 0} (P : A → Type 0) (Q : B → Type 0) (f : A → List B)
    → ((x : A) → P x → Each Q (f x)) → (xs : List A) → Each P xs → Each Q (flat_map f xs)
each_flat P Q f h [] p = tt
each_flat P Q f h (x ∷ xs) p =
    each_append Q (f x) (flat_map f xs) (h x p.0) (each_flat P Q f h xs p.1)

pub has_left : {A : Type 0} (x : A) (xs ys : List A) → Has x xs → Has x (xs ++ ys)
has_left x [] ys h = absurd h
has_left x (y ∷ xs) ys (inl e) = inl e
has_left x (y ∷ xs) ys (inr h) = inr (has_left x xs ys h)

pub has_right : {A : Type 0} (x : A) (xs ys : List A) → Has x ys → Has x (xs ++ ys)
has_right x [] ys h = h
has_right x (y ∷ xs) ys h = inr (has_right x xs ys h)

pub has_map : {A B : Type 0} (f : A → B) (x : A) (xs : List A) → Has x xs → Has (f x) (map f xs)
has_map f x [] h = absurd h
has_map f x (y ∷ xs) (inl e) = inl (ap f e)
has_map f x (y ∷ xs) (inr h) = inr (has_map f x xs h)

pub has_flat : {A B : Type 0} (f : A → List B) (x : A) (y : B) (xs : List A) → Has x xs
    → Has y (f x) → Has y (flat_map f xs)
has_flat f x y [] h k = absurd h
has_flat f x y (z ∷ xs) (inl e) k =
    has_left y (f z) (flat_map f xs) (subst (λ w. Has y (f w)) e k)
has_flat f x y (z ∷ xs) (inr h) k = has_right y (f z) (flat_map f xs) (has_flat f x y xs h k)
