-- Records computed from the definitions.
--   record_of_r         the record of the paper's R; prepared-R: it is that
--   broken-one-by-one   what breaks a record, each alone: the modulus, the row count, an entry, a stored inverse, a norm, a number behind
--                       the rows in each list, the inverse of c_1
--   append-refusals, replace-refusals, drop-refusals, empty-refusals, operation-refusals
--                       every fault at once, and then one after another mended
--   still-right         a record that differs in one number and is right: that of another family
--   unaccepted          records of their own rows, which are not accepted: each is refused too
--   empty-outcome, append-outcome, drop-outcome, replace-outcome; empty-refusal, append-refusal, drop-refusal, replace-refusal
--                       what the promises of the changes say of R: the record handed out, and the old one after a refusal
--   changes-follow      the rows of R appended to the empty family, the second replaced and put back, the last dropped
-- Assumes nothing.
use Rattle.std.specs.Prelude.{◌≡◌, refl, List, [], ◌∷◌, map, ℕ, set, replicate}
use Rattle.definitions.specs.Family.{Row, row_of, family}
use Rattle.definitions.specs.Refusals.{Verdict, finished, refused, verdict}
use Rattle.definitions.specs.Figures.{R, handed}
use Rattle.definitions.specs.Prepared.{Prepared, padded, stored_a, stored_c, prepared, any_holds, unlike, differs, broken}
use Rattle.definitions.specs.Prepared.{record_test, no_rows_test, absent_row_test, row_tests, empty_tests, append_tests, drop_tests}
use Rattle.definitions.specs.Prepared.{replace_tests}
use Rattle.definitions.specs.Prepared.{appended, shortened, replaced, all_zeros, EmptyCall, AppendCall, DropCall, ReplaceCall}
use Rattle.definitions.specs.PreparedCalls.{prepared_plain_tests, prepared_tree_tests, prepared_norms_tests, prepared_moments_tests}

pub data Call : Type 0 where
  call_record : Prepared → Call
  call_empty : ℕ → Call
  call_append : Prepared → Row → Call
  call_drop_last : Prepared → Call
  call_replace : Prepared → ℕ → Row → Call
  call_plain : Prepared → List ℕ → ℕ → Call
  call_tree : Prepared → List ℕ → ℕ → ℕ → Call
  call_norms : Prepared → ℕ → Call
  call_moments : Prepared → ℕ → ℕ → Call

-- what a call answers; whoever unfolds it unfolds the definitions that it leads to
unfoldable pub told : Call → Verdict
unfolding handed padded stored_a stored_c prepared any_holds unlike differs broken record_test no_rows_test absent_row_test row_tests empty_tests
    append_tests drop_tests replace_tests all_zeros prepared_plain_tests prepared_tree_tests prepared_norms_tests prepared_moments_tests
told (call_record p) = verdict (record_test p ∷ []) []
told (call_empty m) = verdict (empty_tests m) []
told (call_append p row) = verdict (append_tests p row) []
told (call_drop_last p) = verdict (drop_tests p) []
told (call_replace p i row) = verdict (replace_tests p i row) []
told (call_plain p u output) = verdict (prepared_plain_tests p u output) []
told (call_tree p u output work) = verdict (prepared_tree_tests p u output work) []
told (call_norms p output) = verdict (prepared_norms_tests p output) []
told (call_moments p output work) = verdict (prepared_moments_tests p output work) []

abbrev holding : ℕ → ℕ → List ℕ → List ℕ → List ℕ → List ℕ → List ℕ → List ℕ → Prepared
holding m r a b c x z d = record { modulus = m; rows = r; a = a; b = b; c = c; a_inverses = x; c_inverses = z; norms = d }

-- R: modulo 7 the rows 1 0 1 and 2 3 5; x and z are the inverses of its a and c, and d its norms
abbrev a : List ℕ
a = padded 127 (1 ∷ 2 ∷ [])

abbrev b : List ℕ
b = padded 127 (0 ∷ 3 ∷ [])

abbrev c : List ℕ
c = padded 127 (1 ∷ 5 ∷ [])

abbrev x : List ℕ
x = padded 127 (1 ∷ 4 ∷ [])

abbrev z : List ℕ
z = padded 127 (0 ∷ 3 ∷ [])

abbrev d : List ℕ
d = padded 128 (1 ∷ 1 ∷ 5 ∷ [])

abbrev pub record_of_r : Prepared
record_of_r = holding 7 2 a b c x z d

pub prepared-R : prepared R ≡ record_of_r
unfolding told
prepared-R = refl

pub right-R : told (call_record record_of_r) ≡ finished []
unfolding told
right-R = refl

-- what they hold is what their rows give: m = 1, an entry that is not below m, an a and a c without an inverse
abbrev unaccepted : List Prepared
unaccepted = map prepared (
    family 1 [] [] [] ∷ family 7 (8 ∷ []) (0 ∷ []) (1 ∷ []) ∷ family 7 (0 ∷ []) (0 ∷ []) (1 ∷ [])
    ∷ family 15 (1 ∷ 1 ∷ []) (0 ∷ 0 ∷ []) (1 ∷ 5 ∷ []) ∷ []
    )

pub unaccepted-refused : map (λ p. told (call_record p)) unaccepted ≡ map (λ p. refused 14) unaccepted
unfolding told
unaccepted-refused = refl

-- each differs from the record of R in one number, but for the last, which is all zeros
abbrev damaged : List Prepared
damaged =
    holding 1 2 a b c x z d ∷ holding 2147483648 2 a b c x z d ∷ holding 11 2 a b c x z d
    ∷ holding 7 1 a b c x z d ∷ holding 7 3 a b c x z d ∷ holding 7 128 a b c x z d
    ∷ holding 7 2 (set a 1 9) b c x z d ∷ holding 7 2 a (set b 1 10) c x z d ∷ holding 7 2 a b (set c 0 7) x z d
    ∷ holding 7 2 (set a 1 0) b c x z d ∷ holding 7 2 a b (set c 1 0) x z d
    ∷ holding 7 2 a b c (set x 1 5) z d ∷ holding 7 2 a b c (set x 1 11) z d ∷ holding 7 2 a b c x (set z 1 10) d
    ∷ holding 7 2 a b c x (set z 0 1) d
    ∷ holding 7 2 a b c x z (set d 0 2) ∷ holding 7 2 a b c x z (set d 2 12)
    ∷ holding 7 2 (set a 2 1) b c x z d ∷ holding 7 2 a (set b 126 1) c x z d ∷ holding 7 2 a b (set c 2 1) x z d
    ∷ holding 7 2 a b c (set x 126 1) z d ∷ holding 7 2 a b c x (set z 2 1) d ∷ holding 7 2 a b c x z (set d 127 1)
    ∷ all_zeros
    ∷ []

pub broken-one-by-one : map (λ p. told (call_record p)) damaged ≡ map (λ p. refused 14) damaged
unfolding told
broken-one-by-one = refl

-- the rows 1 0 0 and 3 0 5, with what they give modulo 7 and modulo 14 alike
abbrev modulo : ℕ → Prepared
modulo m =
    holding m 2 (padded 127 (1 ∷ 3 ∷ [])) (padded 127 []) (padded 127 (0 ∷ 5 ∷ [])) (padded 127 (1 ∷ 5 ∷ [])) (padded 127 (0 ∷ 3 ∷ []))
    (padded 128 (1 ∷ 3 ∷ 5 ∷ []))

-- another b below m, another c_1 below m, another m where there are no rows, and another m with rows
pub still-right : map told (
    call_record (holding 7 2 a (set b 1 4) c x z d) ∷ call_record (holding 7 2 a b (set c 0 0) x z d)
    ∷ call_record (holding 9 0 (padded 127 []) (padded 127 []) (padded 127 []) (padded 127 []) (padded 127 []) (padded 128 (1 ∷ [])))
    ∷ call_record (modulo 7) ∷ call_record (modulo 14) ∷ []
    ) ≡ finished [] ∷ finished [] ∷ finished [] ∷ finished [] ∷ finished [] ∷ []
unfolding told
still-right = refl

-- the record of no rows modulo 7, a damaged one, and one that is full: 127 rows 1 0 1 modulo 2
abbrev no_rows : Prepared
no_rows = holding 7 0 (padded 127 []) (padded 127 []) (padded 127 []) (padded 127 []) (padded 127 []) (padded 128 (1 ∷ []))

abbrev wrong : Prepared
wrong = holding 7 2 a b c x z (set d 0 2)

abbrev full : Prepared
full = holding 2 127 (replicate 127 1) (replicate 127 0) (replicate 127 1) (replicate 127 1) (0 ∷ replicate 126 1) (replicate 128 1)

-- the record of one row 1 0 1 modulo 15
abbrev of_fifteen : Prepared
of_fifteen = prepared (family 15 (1 ∷ []) (0 ∷ []) (1 ∷ []))

-- 18 and 11 pass over a new row 1
pub append-refusals : map told (
    call_append wrong (row_of 7 7 7) ∷ call_append full (row_of 2 2 2) ∷ call_append record_of_r (row_of 0 7 0) ∷ call_append record_of_r (row_of 0 0 0)
    ∷ call_append record_of_r (row_of 1 0 0) ∷ call_append record_of_r (row_of 1 0 1) ∷ call_append no_rows (row_of 0 0 0) ∷ call_append no_rows (row_of 1 0 0)
    ∷ call_append of_fifteen (row_of 0 0 3) ∷ call_append of_fifteen (row_of 3 0 0) ∷ call_append of_fifteen (row_of 1 0 0)
    ∷ call_append of_fifteen (row_of 1 0 3) ∷ []
    ) ≡ refused 14 ∷ refused 5 ∷ refused 9 ∷ refused 17 ∷ refused 18 ∷ finished [] ∷ refused 17 ∷ finished []
    ∷ refused 17 ∷ refused 10 ∷ refused 18 ∷ refused 11 ∷ []
unfolding told
append-refusals = refl

-- rows are counted from 1, and 18 and 11 pass over row 1
pub replace-refusals : map told (
    call_replace wrong 0 (row_of 7 7 7) ∷ call_replace record_of_r 0 (row_of 7 7 7) ∷ call_replace record_of_r 3 (row_of 7 7 7)
    ∷ call_replace record_of_r 2 (row_of 0 0 7) ∷ call_replace record_of_r 2 (row_of 0 0 0) ∷ call_replace record_of_r 2 (row_of 1 0 0)
    ∷ call_replace record_of_r 2 (row_of 1 0 1) ∷ call_replace record_of_r 1 (row_of 1 0 0)
    ∷ call_replace of_fifteen 1 (row_of 0 0 3) ∷ call_replace of_fifteen 1 (row_of 3 0 0) ∷ call_replace of_fifteen 1 (row_of 1 0 3) ∷ []
    ) ≡ refused 14 ∷ refused 16 ∷ refused 16 ∷ refused 9 ∷ refused 17 ∷ refused 18 ∷ finished [] ∷ finished []
    ∷ refused 17 ∷ refused 10 ∷ finished [] ∷ []
unfolding told
replace-refusals = refl

pub drop-refusals : map told (call_drop_last all_zeros ∷ call_drop_last no_rows ∷ call_drop_last record_of_r ∷ []) ≡ refused 14 ∷ refused 15 ∷ finished [] ∷ []
unfolding told
drop-refusals = refl

pub empty-refusals : map told (call_empty 1 ∷ call_empty 2 ∷ call_empty 2147483647 ∷ call_empty 2147483648 ∷ [])
    ≡ refused 3 ∷ finished [] ∷ finished [] ∷ refused 3 ∷ []
unfolding told
empty-refusals = refl

pub operation-refusals : map told (
    call_plain wrong (7 ∷ []) 2 ∷ call_plain record_of_r (7 ∷ []) 2 ∷ call_plain record_of_r (7 ∷ 0 ∷ 1 ∷ []) 2
    ∷ call_tree record_of_r (7 ∷ 0 ∷ 1 ∷ []) 3 16383 ∷ call_tree record_of_r (7 ∷ 0 ∷ 1 ∷ []) 3 16384 ∷ call_tree record_of_r (3 ∷ 0 ∷ 1 ∷ []) 3 16384
    ∷ call_norms wrong 2 ∷ call_norms record_of_r 2 ∷ call_norms record_of_r 3
    ∷ call_moments wrong 3 0 ∷ call_moments record_of_r 3 0 ∷ call_moments record_of_r 5 0 ∷ call_moments record_of_r 5 16384 ∷ []
    ) ≡ refused 14 ∷ refused 6 ∷ refused 7 ∷ refused 8 ∷ refused 12 ∷ finished []
    ∷ refused 14 ∷ refused 7 ∷ finished []
    ∷ refused 14 ∷ refused 7 ∷ refused 8 ∷ finished [] ∷ []
unfolding told
operation-refusals = refl

-- the record of R with the row 3 0 1 in the place of its second
abbrev changed_r : Prepared
changed_r =
    holding 7 2 (padded 127 (1 ∷ 3 ∷ [])) (padded 127 []) (padded 127 (1 ∷ 1 ∷ [])) (padded 127 (1 ∷ 5 ∷ [])) (padded 127 (0 ∷ 1 ∷ []))
    (padded 128 (1 ∷ 2 ∷ 1 ∷ []))

-- the norms are worked out anew with each change
pub changes-follow : map prepared (
    family 7 [] [] [] ∷ appended (appended (family 7 [] [] []) (row_of 1 0 1)) (row_of 2 3 5)
    ∷ replaced R 1 (row_of 3 0 1) ∷ replaced (replaced R 1 (row_of 3 0 1)) 1 (row_of 2 3 5) ∷ shortened R ∷ []
    ) ≡ no_rows ∷ record_of_r ∷ changed_r ∷ record_of_r
    ∷ holding 7 1 (padded 127 (1 ∷ [])) (padded 127 []) (padded 127 (1 ∷ [])) (padded 127 (1 ∷ [])) (padded 127 []) (padded 128 (1 ∷ 6 ∷ []))
    ∷ []
unfolding told
changes-follow = refl

pub empty-outcome : EmptyCall 7 (finished []) no_rows
unfolding told
empty-outcome = record { answer = refl; handed = refl }

pub empty-refusal : EmptyCall 1 (refused 3) all_zeros
unfolding told
empty-refusal = record { answer = refl; handed = refl }

pub append-outcome : AppendCall (prepared (shortened R)) (row_of 2 3 5) (finished []) record_of_r
unfolding told
append-outcome = record { answer = refl; handed = refl }

pub append-refusal : AppendCall wrong (row_of 1 0 1) (refused 14) wrong
unfolding told
append-refusal = record { answer = refl; handed = refl }

pub drop-outcome : DropCall record_of_r (finished []) (prepared (family 7 (1 ∷ []) (0 ∷ []) (1 ∷ [])))
unfolding told
drop-outcome = record { answer = refl; handed = refl }

pub drop-refusal : DropCall no_rows (refused 15) no_rows
unfolding told
drop-refusal = record { answer = refl; handed = refl }

pub replace-outcome : ReplaceCall record_of_r 2 (row_of 3 0 1) (finished []) changed_r
unfolding told
replace-outcome = record { answer = refl; handed = refl }

pub replace-refusal : ReplaceCall record_of_r 2 (row_of 0 0 1) (refused 17) record_of_r
unfolding told
replace-refusal = record { answer = refl; handed = refl }
