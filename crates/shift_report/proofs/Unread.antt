-- What comes after the record and 65,535 sheets does not count.
use Rattle.std.proofs.Common.{ℕ, zero, suc, ◌+◌, ◌*◌, ◌≤◌, ◌≡◌, sym, ap, ◌∙◌, cond, List, ◌∷◌, arith, ltb-true, ltb-false, ltb, lit≤, length, take, drop, length-take, take_all, take-take}
use Rattle.std.proofs.lemmas.List.{drop-take}
use Rattle.state.specs.declared.State.{State}
use Rattle.outcome.specs.Outcome.{number_of, is_accepted}
use Rattle.record.specs.declared.Answer.{Answer}
use Rattle.record.specs.Record.{read_call}
use Rattle.mr74.specs.Frame.{Trace}
use Rattle.lines.specs.Lines.{state_line}
use Rattle.shift_report.specs.Totals.{totals_of}
use Rattle.shift_report.specs.Report.{sheet_trace, sheet_traces, report_line, report_output, Unread}
use Rattle.shift_report.proofs.Traces.{traces_none, traces_more}
use Rattle.shift_report.proofs.Steps.{decided}

-- k sheets and no more
traces_unread : (k : ℕ) (s : State) (bytes : List ℕ) → sheet_traces k s (take (364 * k) bytes) ≡ sheet_traces k s bytes
traces_unread zero s bytes = traces_none s (take 0 bytes) ∙ sym (traces_none s bytes)
traces_unread (suc k) s bytes =
    decided (ltb (length bytes) 364)
    (λ t. ap (sheet_traces (suc k) s) (take_all (364 * suc k) bytes (omega (arith, ltb-true (length bytes) 364 t))))
    (λ t. more (ltb-false (length bytes) 364 t) (traces_unread k (sheet_trace s (take 364 bytes)).next (drop 364 bytes)))
  where
    more : 364 ≤ length bytes → sheet_traces k (sheet_trace s (take 364 bytes)).next (take (364 * k) (drop 364 bytes)) ≡ sheet_traces k (sheet_trace s (take 364 bytes)).next (drop 364 bytes)
        → sheet_traces (suc k) s (take (364 * suc k) bytes) ≡ sheet_traces (suc k) s bytes
    more l e =
        let n : 364 * suc k ≡ 364 + 364 * k = omega arith in
        let front : take 364 (take (364 * suc k) bytes) ≡ take 364 bytes = take-take 364 (364 * suc k) bytes (omega arith) in
        let behind : drop 364 (take (364 * suc k) bytes) ≡ take (364 * k) (drop 364 bytes) = ap (λ (j : ℕ). drop 364 (take j bytes)) n ∙ drop-take 364 (364 * k) bytes in
        traces_more k s (take (364 * suc k) bytes) (omega (arith, length-take (364 * suc k) bytes, l))
        ∙ ap (λ (b : List ℕ). sheet_trace s b ∷ sheet_traces k (sheet_trace s b).next (drop 364 (take (364 * suc k) bytes))) front
        ∙ ap (λ (b : List ℕ). sheet_trace s (take 364 bytes) ∷ sheet_traces k (sheet_trace s (take 364 bytes)).next b) behind
        ∙ ap (λ (ts : List Trace). sheet_trace s (take 364 bytes) ∷ ts) e
        ∙ sym (traces_more k s bytes l)

output_by : Answer → List ℕ → List ℕ
output_by a bytes = cond (is_accepted a.outcome) (report_line (totals_of (sheet_traces 65535 a.state bytes))) (state_line (number_of a.outcome))

pub unread : Unread
unfolding report_output output_by
unread input =
    ap (λ (bytes : List ℕ). output_by (read_call bytes).answer (drop 402 (take 23855142 input))) (take-take 402 23855142 input (lit≤ tt))
    ∙ ap (output_by (read_call (take 402 input)).answer) (drop-take 402 23854740 input)
    ∙ ap (λ (ts : List Trace). cond (is_accepted (read_call (take 402 input)).answer.outcome) (report_line (totals_of ts)) (state_line (number_of (read_call (take 402 input)).answer.outcome))) (traces_unread 65535 (read_call (take 402 input)).answer.state (drop 402 input))
