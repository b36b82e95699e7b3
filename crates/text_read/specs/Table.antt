-- Which line gives which request (compare/README.md, "The protocol"): a line that ends where its words end, else a bad line. Assumes nothing.
use Rattle.std.specs.Prelude.{ℕ, Bool, true, false, List, [], take, Option, None, Some, option_map, unwrap_or}
use Rattle.std.specs.Option.{option_or}
use Rattle.base.specs.Choice.{pick}
use Rattle.text_scan.specs.declared.Word.{Word}
use Rattle.text_scan.specs.Scan.{word, ◌>>=◌, ends_at}
use Rattle.text_words.specs.Words.{bit_at}
use Rattle.text_requests.specs.declared.Known.{Known}
use Rattle.text_requests.specs.declared.Line.{Line}
use Rattle.text_requests.specs.declared.Request.{Request}
use Rattle.text_requests.specs.declared.Request.TheVariants.{Bad, Flush, Full, Alone, On}
use Rattle.text_requests.specs.Forms.{space, text_end, word_end}
use Rattle.text_read_alone.specs.Alone.{lone_line}
use Rattle.text_read.specs.Supervisor.{lags_of, tick_line, call_line}

-- a request, and the lags that a tick has stored
pub record Said : Type 0 where
  pub request : Request
  pub lags : List ℕ

-- how many lags a request has stored
abbrev pub lags_in : Request → ℕ
lags_in (On call) = lags_of call
lags_in Bad = 0
lags_in Flush = 0
lags_in (Full bit) = 0
lags_in (Alone lone) = 0

abbrev pub said_of : (request : Request) (heard : List ℕ) → Said
said_of request heard = record { request = request; lags = take (lags_in request) heard }

-- with no lags
abbrev pub silent : Request → Said
silent request = record { request = request; lags = [] }

-- `full`: bit
unfoldable pub full_line : (s : List ℕ) (at : ℕ) → Option (Word Bool)
full_line s at = do
  name ← word_end s at "full"
  bit_at s name space

-- what was read, if the line ends after it
unfoldable pub whole : {A : Type 0} → (s : List ℕ) → Option (Word A) → Option A
whole s read = do
  w ← read
  pick (ends_at s w.next) (Some w.value) None

-- the first that is there
infixl 20 ◌or◌
abbrev ◌or◌ : (first second : Option Said) → Option Said
first or second = option_or first second

unfoldable pub request_at : (s : List ℕ) (at : ℕ) (known : Known) (room : ℕ) → Said
request_at s at known room =
    let ticked = tick_line s at known.inputs room >>= λ t. pick (ends_at s t.line.next) (Some (record { request = On t.line.value; lags = t.lags })) None in
    let called = option_map (λ call. silent (On call)) (whole s (call_line s at known)) in
    let alone = option_map (λ lone. silent (Alone lone)) (whole s (lone_line s at known.lone_buckets)) in
    let full = option_map (λ bit. silent (Full bit)) (whole s (full_line s at)) in
    unwrap_or (ticked or called or alone or full) (silent Bad)

-- ---- a whole line: `flush` alone, or `!5 ` where the lists are lent one place short, then a request
unfoldable pub prefix_at : (s : List ℕ) → Word Bool
prefix_at s = unwrap_or (option_map (word true) (text_end s 0 "!5 ")) (word false 0)

pub record LineSaid : Type 0 where
  pub short : Bool
  pub said : Said

abbrev pub line_said : (line : Line) (heard : List ℕ) → LineSaid
line_said line heard = record { short = line.short; said = said_of line.request heard }

unfoldable pub line_at : (s : List ℕ) (known : Known) (room : ℕ) → LineSaid
line_at s known room =
    let begins = prefix_at s in
    pick (unwrap_or (option_map (ends_at s) (word_end s 0 "flush")) false)
    (record { short = false; said = silent Flush })
    (record { short = begins.value; said = request_at s begins.next known room })
