-- What is made of tables by chunks, chunk by chunk.
--     chunk_more      one chunk more
--     all_chunks      all chunks
use Rattle.std.proofs.Common.{◌≡◌, ℕ, zero, suc, ◌+◌, ◌*◌, ◌/◌, ◌%◌, ◌<◌, min, List, [], ◌∷◌, ◌++◌, map, length, take, drop, sym, ap, ◌∙◌, arith}
use Rattle.std.specs.Fork.{slice_chunk}
use Rattle.std.proofs.Math.Nat.{mod-lt}
use Rattle.std.proofs.Math.Seq.{take-nil}
use Rattle.std.proofs.lemmas.Bool.{cases_lt}
use Rattle.std.proofs.lemmas.Nat.{div-add-mod'}
use Rattle.std.proofs.lemmas.List.{map-append, take_all}
use Rattle.subfunction_classes.specs.Table.{ClassesOf}

-- the first ones are those of two parts
take_more : (a b : ℕ) (xs : List ClassesOf) → take (a + b) xs ≡ take a xs ++ take b (drop a xs)
take_more zero b xs = ap (λ k. take k xs) (let e : 0 + b ≡ b = omega arith in e)
take_more (suc a) b [] = take-nil (suc a + b) ∙ sym (take-nil b)
take_more (suc a) b (x ∷ xs) = ap (λ k. take k (x ∷ xs)) (let e : suc a + b ≡ suc (a + b) = omega arith in e) ∙ ap (λ us. x ∷ us) (take_more a b xs)

module _ (f : ClassesOf → ClassesOf) (tables : List ClassesOf) (size : ℕ) where
  -- one chunk more
  pub chunk_more : (k : ℕ) → map f (take ((k + 1) * size) tables) ≡ map f (take (k * size) tables) ++ map f (slice_chunk tables size k)
  chunk_more k =
      ap (λ n. map f (take n tables)) (let e : (k + 1) * size ≡ k * size + size = omega arith in e)
      ∙ ap (map f) (take_more (k * size) size tables)
      ∙ map-append f (take (k * size) tables) (slice_chunk tables size k)

  -- all chunks
  pub all_chunks : (k : ℕ) → 0 < size → k ≡ length tables / size + min 1 (length tables % size) → map f (take (k * size) tables) ≡ map f tables
  all_chunks k some e = ap (map f) (take_all (k * size) tables (grind (arith, div-add-mod', mod-lt, cases_lt)))
