use Rattle.std.proofs.Common.{◌≡◌, ℕ, List, take, refl, ◌-◌, ◌++◌, length, length-append, encode_utf8_all, ◌∙◌, ap, arith}
use Rattle.std.proofs.Math.Seq.{take-append_seam}
use Rattle.std.proofs.lemmas.Str.{IsCharBoundary-at_seam, chars-encodes, scalars-chars}
use Rattle.std.specs.Str.{chars, IsUtf8}
use Rattle.silq_lex.proofs.Texts.{seam, scalars_front}
use Rattle.qasm_tokens.proofs.cursor.before.Goals as goal

pub overflow_sub-text : goal.overflow_sub-text
overflow_sub-text c =
    let e = seam c.args.text.now c.args.rest.now c.requires.0 c.utf8.text c.utf8.rest c.requires.1 in
    omega (arith, ap length e, length-append (encode_utf8_all c.requires.0) c.args.rest.now)

pub split_at-requires : goal.split_at-requires
split_at-requires c =
    let e = seam c.args.text.now c.args.rest.now c.requires.0 c.utf8.text c.utf8.rest c.requires.1 in
    let l : length c.args.text.now - length c.args.rest.now ≡ length (encode_utf8_all c.requires.0) = omega (arith, ap length e, length-append (encode_utf8_all c.requires.0) c.args.rest.now) in
    rw l (IsCharBoundary-at_seam _ _ _ e c.utf8.rest)

cut : (text rest result : List ℕ) (n : ℕ) (front : List ℕ) → IsUtf8 text → IsUtf8 rest → n ≡ length text - length rest → result ≡ take n text
    → chars text ≡ front ++ chars rest → result ≡ encode_utf8_all front
cut text rest result n front u v e r h =
    let s = seam text rest front u v h in
    let l : n ≡ length (encode_utf8_all front) = omega (arith, ap length s, length-append (encode_utf8_all front) rest) in
    r ∙ rw l (rw s (take-append_seam (encode_utf8_all front) rest))

pub returns : goal.returns
returns c = λ front h.
    let e = cut _ c.args.rest.now _ _ front c.utf8.text c.utf8.rest refl c.split_at.ensures.front h in
    ap chars e ∙ chars-encodes front (scalars_front front (chars c.args.rest.now) (rw h at (scalars-chars c.args.text.now c.utf8.text)))
